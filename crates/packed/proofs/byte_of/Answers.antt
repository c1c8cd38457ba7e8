use Prim.Native.Nat.{◌*◌, ◌/◌, ◌^◌}
use native.Mathlib.Omega.{arith}
use Rattle.packed.proofs.Laws.{byte_pow}
use lib.Bits.{and_mask}
use Rattle.packed.proofs.byte_of.Goals as goal

pub overflow_cast-result : goal.overflow_cast-result
overflow_cast-result c = omega (arith, and_mask (c.args.x / 2 ^ (8 * c.args.k)) 8)

pub returns : goal.returns
returns c = rw (and_mask (c.args.x / 2 ^ (8 * c.args.k)) 8, byte_pow)
