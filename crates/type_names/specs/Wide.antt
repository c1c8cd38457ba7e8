-- Sets of properties: eight numbers of 64 bits each, from entry `from` of a list on.
use Rattle.std.specs.Prelude.{ℕ, ◌+◌, ◌/◌, ◌%◌, ◌<◌, ◌≡◌, Bool, true, false, not, cond, List, eqb, get_or}
use Rattle.csdl.specs.Search.{any_from, tab}
use Rattle.type_hierarchy.specs.Sets.{member}

unfoldable pub wide : List ℕ → ℕ → ℕ → Bool
wide words from p = member (get_or words (from + p / 64) 0) (p % 64)

-- The set has the numbers that pass the test.
abbrev pub MembersWide : List ℕ → ℕ → (ℕ → Bool) → Type 0
MembersWide words from test = (p : ℕ) → p < 512 → wide words from p ≡ test p

-- Of two answers one is true, and not the other.
abbrev pub one_only : Bool → Bool → Bool
one_only true b = not b
one_only false b = b

-- Some number is in one of two sets only.
unfoldable pub unlike_wide : List ℕ → List ℕ → ℕ → Bool
unlike_wide a b from = any_from (λ p. one_only (wide a 0 p) (wide b from p)) 0 512

-- 64 rows of eight numbers each, with a set as row t.
unfoldable pub with_row : List ℕ → List ℕ → ℕ → List ℕ
with_row rows row t = tab (λ i. cond (eqb (i / 8) t) (get_or row (i % 8) 0) (get_or rows i 0)) 0 512
