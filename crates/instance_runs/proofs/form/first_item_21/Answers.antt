use Rattle.std.proofs.Common.{rules, tests}
use Rattle.csdl.specs.Conforms.{item21c}
use Rattle.csdl.proofs.Chains.{first_by_find}
use Rattle.instance_image.specs.Read.{instance_read}
use Rattle.instance_runs.proofs.form.first_item_21.Goals as goal

pub returns-clause-value : goal.returns-clause-value
returns-clause-value c = first_by_find _ (λ k. item21c (instance_read c.args.instance.now) k) _ c.item_count.ensures.0 c.find.ensures.ran (λ x b q k. search (rules, tests))
