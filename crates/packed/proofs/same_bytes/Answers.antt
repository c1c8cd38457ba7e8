use Rattle.packed.proofs.Laws.{same_pointwise}
use Rattle.packed.proofs.same_bytes.Goals as goal

pub returns : goal.returns
returns c = rw c.eq.ensures (same_pointwise _ _)
