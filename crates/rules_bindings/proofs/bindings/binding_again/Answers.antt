use mathlib.Core.Path.{refl}
use Rattle.std.proofs.Common.{rules, tests}
use Rattle.csdl.proofs.Chains.{any_by_any}
use Rattle.model_image.specs.Read.{model_read}
use Rattle.rules_bindings.specs.Bindings.{again_bound, binding_again}
use Rattle.rules_bindings.proofs.bindings.binding_again.Goals as goal

pub returns : goal.returns
unfolding binding_again
returns c = any_by_any _ (λ j. again_bound (model_read c.args.model.now) c.args.index.now c.args.codes.now j c.args.b) _ refl c.any.ensures.ran (λ x b q k. search (rules, tests))
