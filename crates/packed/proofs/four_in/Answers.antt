use native.Mathlib.Omega.{arith}
use Rattle.packed.proofs.Laws.{field_32}
use Rattle.packed.proofs.four_in.Goals as goal

pub returns : goal.returns
returns c = (rw c.word_of.ensures (field_32 _ _ _ _ _ _ c.byte_in.ensures c.byte_in-2.ensures c.byte_in-3.ensures c.byte_in-4.ensures), omega (arith, c.word_of.ensures))
