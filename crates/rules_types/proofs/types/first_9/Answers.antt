use Rattle.csdl.specs.Types.{type9}
use Rattle.model_image.specs.Read.{model_read}
use Rattle.std.proofs.Common.{rules, tests}
use Rattle.csdl.proofs.Chains.{first_by_find}
use Rattle.rules_types.proofs.types.first_9.Goals as goal

pub returns : goal.returns
returns c = first_by_find _ (λ t. type9 (model_read c.args.model.now) t) _ c.type_count.ensures.0 c.find.ensures.ran (λ x b q k. search (rules, tests))
