use Rattle.packed.proofs.Laws.{field_32}
use Rattle.packed.proofs.word_at.Goals as goal

pub returns : goal.returns
returns c = rw c.word_of.ensures
    (field_32 _ _ _ _ _ _ c.byte_at.ensures c.byte_at-2.ensures c.byte_at-3.ensures c.byte_at-4.ensures)
