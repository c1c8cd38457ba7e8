-- Which node holds which, by the items: `from k` is the node in whose slot item k stands, `to k` the node that the item holds through an
-- integral property; each 0 for none, else its number plus 1. c is the number of items, n the number of nodes.
use Rattle.std.specs.Prelude.{ℕ, zero, suc, ◌+◌, ◌-◌, List, Bool, cond, not, ◌&&◌, ◌||◌, eqb, ltb, get_or}
use Rattle.csdl.specs.Search.{any_from, count_from, one_if, if_found}
use Rattle.csdl.specs.Climb.{reaches}
use Rattle.csdl.specs.declared.Run.{Run}
use Rattle.csdl.specs.Model.{Model}
use Rattle.csdl.specs.Instance.{Instance}
use Rattle.csdl.specs.Conforms.{is_null, integral_item}

-- The node that item k holds, if it is an integral item.
unfoldable pub held_if : Instance → Bool → ℕ → ℕ
held_if i inside k = cond (ltb (i.item_handle k) i.nodes && not (is_null i k) && inside) (suc (i.item_handle k)) 0

-- The node that item k holds through an integral property.
unfoldable pub held_by : Model → Instance → ℕ → ℕ
held_by m i k = held_if i (integral_item m i k) k

-- The node in whose slot item k stands, by the slot of each item and the node of each slot.
unfoldable pub node_in : List ℕ → List ℕ → ℕ → ℕ
node_in item-slots slot-nodes k = if_found 0 (λ s. get_or slot-nodes s 0) (get_or item-slots k 0)

-- What an array has for each number.
abbrev pub entry : List ℕ → ℕ → ℕ
entry array k = get_or array k 0

-- Node v holds node w.
unfoldable pub step_in : (ℕ → ℕ) → (ℕ → ℕ) → ℕ → ℕ → ℕ → Bool
step_in from to c v w = any_from (λ k. eqb (to k) (suc w) && eqb (from k) (suc v)) 0 c

-- How many items hold node w.
unfoldable pub times_in : (ℕ → ℕ) → ℕ → ℕ → ℕ
times_in to c w = count_from (λ k. eqb (to k) (suc w)) 0 c

-- The node of the first of the n items from i on that holds node w.
unfoldable pub holder_from : (ℕ → ℕ) → (ℕ → ℕ) → ℕ → ℕ → ℕ → ℕ
holder_from from to w i zero = 0
holder_from from to w i (suc n) = let rest = holder_from from to w (i + 1) n in cond (eqb (to i) (suc w)) (from i) rest

-- Node w is within itself.
unfoldable pub within_in : (ℕ → ℕ) → (ℕ → ℕ) → ℕ → ℕ → ℕ → Bool
within_in from to c n w = reaches (λ a b. step_in from to c a b) n w w

-- Rule 26 of node w.
unfoldable pub node26_in : (ℕ → ℕ) → (ℕ → ℕ) → ℕ → ℕ → ℕ → Bool
node26_in from to c n w = ltb 1 (times_in to c w) || within_in from to c n w

-- The node that item k holds, as a run of one place or none.
abbrev pub held_run : (ℕ → ℕ) → ℕ → Run
held_run to k = record { first = to k - 1; count = one_if (not (eqb (to k) 0)) }
