-- Byte strings: equality, a part, and the two bytes of a 16-bit number.
use Rattle.std.specs.Prelude.{ℕ, suc, ◌-◌, ◌/◌, ◌%◌, List, [], ◌∷◌, Bool, true, false, cond, ◌&&◌, eqb, take, drop}

-- the two byte strings are equal
unfoldable pub same : List ℕ → List ℕ → Bool
same [] [] = true
same [] (y ∷ ys) = false
same (x ∷ xs) [] = false
same (x ∷ xs) (y ∷ ys) = eqb x y && same xs ys

-- how many bytes the two begin alike in
unfoldable pub common_start : List ℕ → List ℕ → ℕ
common_start [] b = 0
common_start (x ∷ xs) [] = 0
common_start (x ∷ xs) (y ∷ ys) = let rest = common_start xs ys in cond (eqb x y) (suc rest) 0

-- the `len` bytes of s from byte `start` on, as far as s has them
abbrev pub part : List ℕ → ℕ → ℕ → List ℕ
part s start len = take len (drop start s)

-- the bytes of s from byte a up to byte e, without byte e
abbrev pub between : List ℕ → ℕ → ℕ → List ℕ
between s a e = take (e - a) (drop a s)

-- the two bytes of a 16-bit number
abbrev pub high_byte : ℕ → ℕ
high_byte n = n / 256

abbrev pub low_byte : ℕ → ℕ
low_byte n = n % 256
