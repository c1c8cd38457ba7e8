-- A packed field: bits are numbered from the most significant bit of the first byte on. Bits past the end are 0.
use Rattle.std.specs.Prelude.{ℕ, zero, suc, ◌+◌, ◌-◌, ◌*◌, ◌/◌, ◌%◌, ◌^◌, List, Bool, eqb, get_or}

-- bit k of s
unfoldable pub bit : List ℕ → ℕ → ℕ
bit s k = get_or s (k / 8) 0 / 2 ^ (7 - k % 8) % 2

-- the number made of the `width` bits of s from bit `off` on, most significant first
unfoldable pub field_of : List ℕ → ℕ → ℕ → ℕ
field_of s off zero = 0
field_of s off (suc width) = field_of s off width * 2 + bit s (off + width)

-- bit `off` of s is set
unfoldable pub flag_of : List ℕ → ℕ → Bool
flag_of s off = eqb (field_of s off 1) 1
