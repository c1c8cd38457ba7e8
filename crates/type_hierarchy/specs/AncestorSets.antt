-- The ancestors of each type as a set, once for all types.
use Rattle.std.specs.Prelude.{ℕ, List, Bool, cond, ltb}
use Rattle.csdl.specs.Search.{tab}
use Rattle.csdl.specs.Climb.{climb}
use Rattle.csdl.specs.Tables.{type_count, type_base}
use Rattle.type_hierarchy.specs.Sets.{set_of}

-- 64 sets: for each of the first n numbers those that pass its test; the others are empty.
unfoldable pub rows_to : (ℕ → ℕ → Bool) → ℕ → List ℕ
rows_to test n = tab (λ t. cond (ltb t n) (set_of (λ a. test t a) 64) 0) 0 64

-- For each type its ancestors.
abbrev pub ancestors_of : List ℕ → List ℕ
ancestors_of types = rows_to (λ t a. climb (λ u. type_base types u) (type_count types) a t) (type_count types)
