use Rattle.csdl.specs.Verdict.{verdict, instance_means}
use Rattle.enumeration_members.proofs.check_30_and_31.Goals as goal

pub returns-then-is_bad : goal.returns-then-is_bad
unfolding verdict instance_means
returns-then-is_bad c = rw (← c.is_bad.ensures, c.if-is_bad.true)

pub returns : goal.returns
unfolding verdict
returns c = rw (← c.is_bad.ensures, c.if-is_bad.false, ← c.read.ensures) c.check_each.ensures
