use Rattle.std.proofs.Common.{rules, tests}
use Rattle.csdl.specs.Conforms.{slot24}
use Rattle.csdl.proofs.Chains.{first_by_find}
use Rattle.instance_image.specs.Read.{instance_read}
use Rattle.model_image.specs.Read.{model_read}
use Rattle.instance_values.proofs.rules.first_24.Goals as goal

pub returns-clause-value : goal.returns-clause-value
returns-clause-value c = first_by_find _ (λ k. slot24 (model_read c.args.model.now) (instance_read c.args.instance.now) k) _ c.slot_count.ensures.0 c.find.ensures.ran (λ x b q k. search (rules, tests))
