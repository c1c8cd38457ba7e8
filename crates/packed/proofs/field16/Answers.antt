use native.Mathlib.Omega.{arith}
use lib.Pow.{pow_mono}
use Rattle.packed.proofs.field16.Goals as goal

pub overflow_cast-result : goal.overflow_cast-result
overflow_cast-result c = omega (arith, pow_mono {i = c.args.width} {j = 16} (omega arith))
