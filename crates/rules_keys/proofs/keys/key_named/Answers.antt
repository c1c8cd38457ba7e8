use mathlib.Core.Path.{refl}
use Rattle.std.proofs.Common.{rules, tests}
use Rattle.csdl.proofs.Chains.{any_by_any}
use Rattle.model_image.specs.Read.{model_read}
use Rattle.rules_keys.specs.Keys.{again_named, named_again}
use Rattle.rules_keys.proofs.keys.key_named.Goals as goal

pub returns : goal.returns
unfolding named_again
returns c = any_by_any _ (λ j. again_named (model_read c.args.model.now) c.args.codes.now j c.args.k) _ refl c.any.ensures.ran (λ x b q k. search (rules, tests))
