use native.Mathlib.Omega.{arith}
use Rattle.packed.proofs.Laws.{part_none, part-rest, part-whole}
use Rattle.packed.proofs.part_of.Goals as goal

pub returns-then-s-a : goal.returns-then-s-a
returns-then-s-a c = part_none c.args.s.now c.args.start c.args.len c.if-s-a.true

pub returns-then-s-e : goal.returns-then-s-e
returns-then-s-e c = part-rest c.args.s.now c.args.start c.args.len (omega arith)

pub returns : goal.returns
returns c = part-whole c.args.s.now c.args.start c.args.len
