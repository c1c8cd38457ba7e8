use Rattle.rules_bindings.specs.Partners.{partner_coded}
use Rattle.model_image.specs.Read.{model_read}
use Rattle.std.proofs.Common.{rules, tests}
use Rattle.csdl.proofs.Chains.{first_by_find}
use Rattle.rules_bindings.proofs.partners.first_17.Goals as goal

pub returns : goal.returns
returns c = first_by_find _ (λ p. partner_coded (model_read c.args.hierarchy.now.model) c.args.codes.now p) _ c.property_count.ensures.0 c.find.ensures.ran (λ x b q k. search (rules, tests))
