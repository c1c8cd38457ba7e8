use Rattle.std.proofs.Common.{arith}
use Rattle.enumeration_members.proofs.Signs.{small_field}
use Rattle.enumeration_members.proofs.values.value_field.Goals as goal

pub returns-then-given : goal.returns-then-given
returns-then-given c = rw (← c.given.ensures, c.if-given.true, ← c.value.ensures)

pub returns-else-given : goal.returns-else-given
returns-else-given c = rw (← c.given.ensures, c.if-given.false) (small_field c.args.earlier (omega (arith, c.ranges.earlier)))
