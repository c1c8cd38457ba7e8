-- A field that goes over three words of 32 bits.
use Prim.Native.Nat.{ℕ, ◌+◌, ◌*◌, ◌/◌, ◌%◌}
use mathlib.Core.Path.{◌≡◌}
use mathlib.Core.List.{List}
use native.Mathlib.Omega.{arith}
use Rattle.packed.specs.Field.{field_of}
use Rattle.packed.proofs.Laws.{field_add, field_lt}

-- From bit 27 of the first: its last 5 bits, the second, the first 27 bits of the third.
pub three_words : (s : List ℕ) (b x y z : ℕ) → x ≡ field_of s (8 * b) 32 → y ≡ field_of s (8 * (b + 4)) 32 → z ≡ field_of s (8 * (b + 8)) 32
    → (x % 32) * 576460752303423488 + y * 134217728 + z / 32 ≡ field_of s (8 * b + 27) 64
three_words s b x y z p q r =
    let i : 8 * (b + 4) ≡ 8 * b + 27 + 5 = omega arith in
    let j : 8 * (b + 8) ≡ 8 * b + 27 + 5 + 32 = omega arith in
    let second : y ≡ field_of s (8 * b + 27 + 5) 32 = rw i at q in
    let third : z ≡ field_of s (8 * b + 27 + 5 + 32) 32 = rw j at r in
    omega (
      arith,
      field_add s (8 * b) 27 5,
      field_add s (8 * b + 27) 5 59,
      field_add s (8 * b + 27 + 5) 32 27,
      field_add s (8 * b + 27 + 5 + 32) 27 5,
      field_lt s (8 * b + 27) 5,
      field_lt s (8 * b + 27 + 5 + 32 + 27) 5,
    )
