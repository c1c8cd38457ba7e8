use native.Mathlib.Omega.{arith}
use Rattle.enumeration_members.proofs.Signs.{below_range, above_range}
use Rattle.enumeration_members.proofs.values.in_range.Goals as goal

pub returns-then-field-lt9223372036854775808 : goal.returns-then-field-lt9223372036854775808
returns-then-field-lt9223372036854775808 c = below_range c.args.field c.args.down c.args.up c.if-field-lt9223372036854775808.true

pub returns : goal.returns
returns c = above_range c.args.field c.args.down c.args.up c.if-field-lt9223372036854775808.false (omega (arith, c.ranges.field))
