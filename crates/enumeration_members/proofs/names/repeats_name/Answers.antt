use Rattle.enumeration_members.proofs.Keys.{repeated-here, repeated_past}
use Rattle.enumeration_members.proofs.names.repeats_name.Goals as goal

pub returns-then-at-member : goal.returns-then-at-member
returns-then-at-member c = repeated-here _ _ _ _ c.requires.0 c.requires.2 _ c.if-at-member.true c.same_member.ensures

pub returns : goal.returns
returns c = repeated_past _ _ _ _ c.requires.0 c.requires.2 c.if-at-member.false
