-- The codes of the segments as bytes, and how far they have been written.
use Rattle.std.specs.Prelude.{ℕ, ◌+◌, ◌*◌, ◌%◌, ◌≤◌, ◌<◌, ◌≡◌, List, length, get_or}
use Rattle.packed.specs.Bytes.{high_byte, low_byte}
use Rattle.csdl.specs.Search.{tab, flat}
use Rattle.csdl.specs.Verdict.{bytes_of}

-- The code of segment g in 16 bits.
abbrev pub code_of : List ℕ → ℕ → ℕ
code_of codes g = get_or codes g 0 % 65536

-- Two bytes for each of the first n codes.
unfoldable pub code_bytes : List ℕ → ℕ → List ℕ
code_bytes codes n = flat (λ g. bytes_of (code_of codes g)) (tab (λ g. g) 0 n)

-- The first n codes were written, and nothing after them changed.
pub record Written (codes : List ℕ) (n : ℕ) (before out : List ℕ) : Type 0 where
  pub same_length : length out ≡ length before
  pub high : (g : ℕ) → g < n → get_or out (2 * g) 0 ≡ high_byte (code_of codes g)
  pub low : (g : ℕ) → g < n → get_or out (2 * g + 1) 0 ≡ low_byte (code_of codes g)
  pub rest : (j : ℕ) → 2 * n ≤ j → get_or out j 0 ≡ get_or before j 0
