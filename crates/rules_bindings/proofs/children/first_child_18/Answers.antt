use Rattle.std.proofs.Common.{rules, tests}
use Rattle.csdl.proofs.Chains.{first_by_find}
use Rattle.csdl.specs.Paths.{child18}
use Rattle.model_image.specs.Read.{model_read}
use Rattle.rules_bindings.proofs.children.first_child_18.Goals as goal

pub returns : goal.returns
returns c = first_by_find _ (λ h. child18 (model_read c.args.hierarchy.now.model) h) _ c.child_count.ensures.0 c.find.ensures.ran (λ x b q k. search (rules, tests))
