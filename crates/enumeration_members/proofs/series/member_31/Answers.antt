use Rattle.csdl.specs.Members.{member31, member31c, member_value}
use Rattle.enumeration_members.proofs.series.member_31.Goals as goal

pub returns : goal.returns
unfolding member31 member31c member_value
returns c = rw (← c.requires.0, ← c.unlike_first.ensures, ← c.requires.1, ← c.misfits.ensures)
