use Rattle.std.proofs.Common.{refl, rules, tests}
use Rattle.csdl.specs.Form as rules_of
use Rattle.csdl.proofs.Chains.{any_by_any}
use Rattle.model_image.specs.Read.{model_read}
use Rattle.rules_names.proofs.schemas.schema_6c.Goals as goal

pub returns : goal.returns
returns c = any_by_any _ (λ j. rules_of.shares_name (model_read c.args.model.now) c.args.i j) _ refl c.any.ensures.ran (λ x b q k. search (rules, tests))
