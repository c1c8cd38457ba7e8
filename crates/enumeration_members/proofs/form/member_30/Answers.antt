use Rattle.csdl.specs.Members.{members_of, member30}
use Rattle.enumeration_members.specs.Read.{members_read}
use Rattle.enumeration_members.proofs.form.member_30.Goals as goal

pub returns : goal.returns
unfolding member30 members_read members_of
returns c = cc
