-- Simple identifiers by their sizes: for each byte the least size that is too long for one from there on.
use Rattle.std.specs.Prelude.{ℕ, suc, min, ◌<◌, ◌≡◌, List, [], ◌∷◌, cond, length, get_or, drop}
use Rattle.csdl.specs.Form.{is_digit, is_word_byte}

-- One more than the number of letters, digits and underscores that the bytes begin with; at most 129.
unfoldable pub word_limit : List ℕ → ℕ
word_limit [] = 1
word_limit (c ∷ s) = let rest = word_limit s in cond (is_word_byte c) (min 129 (suc rest)) 1

-- The least size, from 1 on, of which the bytes do not begin with a simple identifier.
unfoldable pub identifier_limit : List ℕ → ℕ
identifier_limit s = cond (is_digit (get_or s 0 0)) 1 (word_limit s)

-- Entry i has the limit of the name bytes from byte i on.
pub record Limits (names limits : List ℕ) : Type 0 where
  pub size : length limits ≡ 4096
  pub each : (i : ℕ) → i < 4096 → get_or limits i 0 ≡ identifier_limit (drop i names)
