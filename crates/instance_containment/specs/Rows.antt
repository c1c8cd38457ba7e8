-- Which node holds which, as rows of bits: four numbers of 64 bits each for a node, bit w of row v where v holds w.
use Rattle.std.specs.Prelude.{ℕ, suc, ◌+◌, ◌*◌, ◌/◌, ◌%◌, ◌<◌, ◌≡◌, Bool, ◌&&◌, ◌||◌, List, eqb, length, get_or}
use Rattle.csdl.specs.Climb.{reaches}
use Rattle.type_hierarchy.specs.Sets.{member}

unfoldable pub in_row : List ℕ → ℕ → ℕ → Bool
in_row rows v w = member (get_or rows (4 * v + w / 64) 0) (w % 64)

-- The rows have the steps.
pub record Steps (step : ℕ → ℕ → Bool) (rows : List ℕ) : Type 0 where
  pub size : length rows ≡ 1024
  pub row : (v w : ℕ) → v < 256 → w < 256 → in_row rows v w ≡ step v w

-- One step more, from a node to a node; each is 0 for none, else a number plus 1.
abbrev pub with_step : List ℕ → ℕ → ℕ → ℕ → ℕ → Bool
with_step rows from to v w = eqb to (suc w) && eqb from (suc v) || in_row rows v w

-- The rows after row v took in row c.
pub record Passed (v c : ℕ) (before after : List ℕ) : Type 0 where
  pub size : length after ≡ 1024
  pub here : (w : ℕ) → w < 256 → in_row after v w ≡ (in_row before v w || (in_row before v c && in_row before c w))
  pub other : (u w : ℕ) → (u ≡ v → ⊥) → w < 256 → in_row after u w ≡ in_row before u w

-- The rows below n after each took in row c.
pub record Through (n c : ℕ) (before after : List ℕ) : Type 0 where
  pub size : length after ≡ 1024
  pub row : (v w : ℕ) → v < n → w < 256 → in_row after v w ≡ (in_row before v w || (in_row before v c && in_row before c w))

-- The rows below n have what their numbers reach through numbers below n.
pub record Closed (n : ℕ) (before after : List ℕ) : Type 0 where
  pub size : length after ≡ 1024
  pub row : (v w : ℕ) → v < n → w < n → in_row after v w ≡ reaches (in_row before) n v w
