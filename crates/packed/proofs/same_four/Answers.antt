use mathlib.Core.Path.{sym}
use native.Mathlib.Omega.{arith}
use Rattle.packed.proofs.Laws.{same_add}
use Rattle.packed.proofs.same_four.Goals as goal

pub returns : goal.returns
returns c = rw (c.same_two.ensures, c.same_two-2.ensures) (sym (same_add c.args.a.now c.args.b.now c.args.i 2 2 (omega arith) (omega arith)))
