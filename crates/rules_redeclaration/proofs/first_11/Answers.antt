use Rattle.csdl.specs.Properties as rules
use Rattle.model_image.specs.Read.{model_read}
use Rattle.std.proofs.Common.{rules, tests}
use Rattle.csdl.proofs.Chains.{first_by_find}
use Rattle.rules_redeclaration.proofs.first_11.Goals as goal

pub returns : goal.returns
returns c = first_by_find _ (λ p. rules.property11 (model_read c.args.lookup.now.hierarchy.model) p) _ c.property_count.ensures.0 c.find.ensures.ran (λ x b q k. search (rules, tests))
