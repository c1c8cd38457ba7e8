use Rattle.std.proofs.Common.{refl, rules, tests}
use Rattle.csdl.specs.Form.{type7a, same_type}
use Rattle.csdl.proofs.Chains.{any_by_any}
use Rattle.model_image.specs.Read.{model_read}
use Rattle.rules_names.proofs.repeats.type_7.Goals as goal

pub returns : goal.returns
unfolding type7a
returns c = any_by_any _ (λ u. same_type (model_read c.args.model.now) c.args.t u) _ refl c.any.ensures.ran (λ x b q k. search (rules, tests))
