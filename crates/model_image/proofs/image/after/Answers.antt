use mathlib.Core.Path.{refl}
use native.Mathlib.Nat.{mul-le-mul_right}
use native.Mathlib.Omega.{arith}
use Rattle.model_image.proofs.image.after.Goals as goal

pub overflow_mul-result : goal.overflow_mul-result
overflow_mul-result c = record { fits = omega (arith, mul-le-mul_right c.args.count c.requires.1) }

pub overflow_add-result : goal.overflow_add-result
overflow_add-result c = record { fits = omega (arith, mul-le-mul_right c.args.count c.requires.1) }

pub returns : goal.returns
returns c = (refl, omega (arith, mul-le-mul_right c.args.count c.requires.1))
