use Rattle.csdl.specs.Form as rules
use Rattle.model_image.specs.Read.{model_read}
use Rattle.std.proofs.Common.{rules, tests}
use Rattle.csdl.proofs.Chains.{first_by_find}
use Rattle.rules_names.proofs.schemas.first_6.Goals as goal

pub returns : goal.returns
returns c = first_by_find _ (λ i. rules.schema6 (model_read c.args.model.now) i) _ c.schema_count.ensures.0 c.find.ensures.ran (λ x b q k. search (rules, tests))
