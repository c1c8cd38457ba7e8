-- Numbers with a sign, as fields of 64 bits in two's complement.
use Prim.Native.Nat.{ℕ, ◌-◌, ◌≤◌, ◌<◌}
use mathlib.Core.Path.{◌≡◌, sym}
use native.Mathlib.Omega.{arith}
use lib.Dec.{leb, ltb}
use borrow.Author.Tests.{lt-ltb, le-ltb, le-leb, lt-leb}
use Rattle.csdl.specs.Members.{signed, in_range}
use Rattle.csdl.specs.Members.Signed.{plus}
use Rattle.csdl.proofs.Logic.{below_or_not}

-- A field below 2^63 means itself.
pub small_field : (x : ℕ) → x < 9223372036854775808 → signed x ≡ plus x
unfolding signed
small_field x h = rw (lt-ltb x 9223372036854775808 h)

-- The range of a field's number, on either side of 2^63.
pub below_range : (x down up : ℕ) → x < 9223372036854775808 → leb x up ≡ in_range down up (signed x)
below_range x down up h = rw (small_field x h)

pub above_range : (x down up : ℕ) → 9223372036854775808 ≤ x → x < 18446744073709551616 → ltb (18446744073709551615 - x) down ≡ in_range down up (signed x)
unfolding signed
above_range x down up h l =
    rw (le-ltb x 9223372036854775808 h)
    (below_or_not (18446744073709551615 - x) down
    (λ a. rw (lt-ltb (18446744073709551615 - x) down a) (sym (le-leb (18446744073709551616 - x) down (omega arith))))
    (λ a. rw (le-ltb (18446744073709551615 - x) down a) (sym (lt-leb (18446744073709551616 - x) down (omega arith)))))
