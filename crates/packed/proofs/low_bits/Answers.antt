use native.Mathlib.Omega.{arith}
use lib.Pow.{pow_pos}
use lib.Bits.{and_mask, mask_lt}
use Rattle.packed.proofs.Laws.{one_shl}
use Rattle.packed.proofs.low_bits.Goals as goal

pub overflow_sub-result : goal.overflow_sub-result
overflow_sub-result c = rw (one_shl c.args.n (omega arith)) (pow_pos c.args.n)

pub returns : goal.returns
returns c = rw (one_shl c.args.n (omega arith)) (and_mask c.args.x c.args.n, mask_lt c.args.x c.args.n)
