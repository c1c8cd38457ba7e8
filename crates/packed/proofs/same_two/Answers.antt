use native.Mathlib.Omega.{arith}
use Rattle.packed.proofs.Laws.{same_two}
use Rattle.packed.proofs.same_two.Goals as goal

pub returns : goal.returns
returns c = same_two c.args.a.now c.args.b.now c.args.i (omega arith) (omega arith)
