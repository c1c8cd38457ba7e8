use Rattle.std.proofs.Common.{rules, tests}
use Rattle.csdl.proofs.Chains.{first_by_find}
use Rattle.model_image.specs.Read.{model_read}
use Rattle.rules_keys.specs.Constraints.{constraint_coded}
use Rattle.rules_keys.proofs.constraints.first_16.Goals as goal

pub returns : goal.returns
returns c = first_by_find _ (λ i. constraint_coded (model_read c.args.model.now) c.args.codes.now i) _ c.constraint_count.ensures.0 c.find.ensures.ran (λ x b q k. search (rules, tests))
