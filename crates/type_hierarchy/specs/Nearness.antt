-- How near each type is on the climb from a type.
use Rattle.std.specs.Prelude.{ℕ, ◌<◌, ◌≡◌, List, length, get_or}
use Rattle.csdl.specs.Search.{or_else, tab}
use Rattle.type_hierarchy.specs.Near.{left_at, only}

-- The entries after a climb from t: where there was none, how many of the types are left where the climb meets the type.
pub record Climbed (next : ℕ → ℕ) (left t : ℕ) (old nearness : List ℕ) : Type 0 where
  pub size : length nearness ≡ 128
  pub is : (u : ℕ) → u < 128 → get_or nearness u 0 ≡ or_else (get_or old u 0) (left_at (only u) next left t)

-- For each of 128 types how many of the types are left where the climb from t meets it, 0 where it does not.
unfoldable pub nearness_of : (ℕ → ℕ) → ℕ → ℕ → List ℕ
nearness_of next all t = tab (λ u. left_at (only u) next all t) 0 128
