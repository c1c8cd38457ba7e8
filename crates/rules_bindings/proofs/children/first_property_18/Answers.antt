use Rattle.std.proofs.Common.{rules, tests}
use Rattle.csdl.proofs.Chains.{first_by_find}
use Rattle.csdl.specs.Paths.{property18a}
use Rattle.model_image.specs.Read.{model_read}
use Rattle.rules_bindings.proofs.children.first_property_18.Goals as goal

pub returns : goal.returns
returns c = first_by_find _ (λ p. property18a (model_read c.args.hierarchy.now.model) p) _ c.property_count.ensures.0 c.find.ensures.ran (λ x b q k. search (rules, tests))
