-- What the check keeps in arrays.
use Rattle.std.specs.Prelude.{ℕ, zero, suc, ◌+◌, ◌<◌, min, ◌≡◌, List, cond, length, get_or}
use Rattle.csdl.specs.Search.{tab}
use Rattle.csdl.specs.declared.Run.{Run}
use Rattle.csdl.specs.Model.{in_run}

-- The array has f at each of its n places.
pub record Tabulates (f : ℕ → ℕ) (n : ℕ) (array : List ℕ) : Type 0 where
  pub size : length array ≡ n
  pub at : (k : ℕ) → k < n → get_or array k 0 ≡ f k

-- The array with g applied to each place of a run.
unfoldable pub changed : (ℕ → ℕ) → Run → List ℕ → List ℕ
changed g r array = tab (λ k. cond (in_run r k) (g (get_or array k 0)) (get_or array k 0)) 0 (length array)

-- What the n runs from i on leave at place k, from the last to the first: run i makes g i of what those after it left, 0 at first.
unfoldable pub left_by : (ℕ → Run) → (ℕ → ℕ → ℕ) → ℕ → ℕ → ℕ → ℕ
left_by run g k i zero = 0
left_by run g k i (suc n) = let rest = left_by run g k (i + 1) n in cond (in_run (run i) k) (g i rest) rest

-- A count that stops at 2.
abbrev pub to_two : ℕ → ℕ
to_two n = min 2 n
