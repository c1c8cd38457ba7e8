use borrow.Author.Tests.{eq-eqb, ne_eqb}
use Rattle.csdl.specs.Members.{same_member}
use Rattle.enumeration_members.proofs.names.same_member.Goals as goal

pub returns-then-member_type : goal.returns-then-member_type
unfolding same_member
returns-then-member_type c = rw (← c.member_type.ensures.0, ← c.member_type-2.ensures.0, ne_eqb _ _ c.if-member_type.true)

pub returns : goal.returns
unfolding same_member
returns c = rw (
  ← c.member_type.ensures.0,
  ← c.member_type-2.ensures.0,
  eq-eqb _ _ c.if-member_type.false,
  ← c.text.ensures,
  ← c.text-2.ensures,
  ← c.same_bytes.ensures,
)
