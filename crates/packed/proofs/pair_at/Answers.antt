use Rattle.packed.proofs.Laws.{field_pair}
use Rattle.packed.proofs.pair_at.Goals as goal

pub returns-then-i-s : goal.returns-then-i-s
returns-then-i-s c = rw c.joined.ensures (field_pair _ _ _ _ c.byte_in.ensures c.byte_in-then-i-s.ensures)

pub returns : goal.returns
returns c = rw c.joined-2.ensures (field_pair _ _ _ _ c.byte_at.ensures c.byte_at-2.ensures)
