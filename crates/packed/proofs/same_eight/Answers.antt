use mathlib.Core.Path.{sym}
use native.Mathlib.Omega.{arith}
use Rattle.packed.proofs.Laws.{same_add}
use Rattle.packed.proofs.same_eight.Goals as goal

pub returns : goal.returns
returns c = rw (c.same_four.ensures, c.same_four-2.ensures) (sym (same_add c.args.a.now c.args.b.now c.args.i 4 4 (omega arith) (omega arith)))
