use Rattle.std.proofs.Common.{rules, tests}
use Rattle.csdl.specs.Members as members
use Rattle.csdl.proofs.Chains.{first_by_find}
use Rattle.enumeration_members.specs.Read.{members_read}
use Rattle.model_image.specs.Read.{model_read}
use Rattle.enumeration_members.proofs.form.first_30.Goals as goal

pub returns : goal.returns
returns c = first_by_find _ (λ r. members.member30 (model_read c.args.model.now) (members_read c.args.members.now) r) _ c.count.ensures.0 c.find.ensures.ran (λ x b q k. search (rules, tests))
