-- Rule 26 by the two arrays is rule 26 of the instance. Assumes nothing.
use Prim.Native.Nat.{ℕ, zero, suc, zero-le, ◌+◌, ◌≤◌, ◌<◌}
use mathlib.Core.Path.{◌≡◌, refl, sym, ap, ap₂, ◌∙◌}
use mathlib.Core.Bool.{Bool, true, false, cond, not, ◌&&◌, ◌||◌, and-true, and-false}
use mathlib.Core.List.{List}
use native.Mathlib.Omega.{arith}
use lib.Dec.{eqb, ltb, eqb-zero-suc, eqb-suc-suc}
use lib.ListN.{length, get_or, get_or-eq_default}
use borrow.Author.Tests.{ltb-true, ltb-false, ne_eqb, le-ltb, lt-ltb}
use Rattle.std.proofs.Common.{MatchOption}
use Rattle.csdl.specs.Search.{first_from, count_from, if_found, found}
use Rattle.csdl.specs.Model.{Model, in_run}
use Rattle.csdl.specs.Instance.{Instance, instance_of}
use Rattle.csdl.specs.Conforms.{is_null, integral_item, node_of_item, node_of_slot, holds_item, holds_node, node26}
use Rattle.instance_runs.specs.Tables.{Tabulates, left_by, to_two}
use Rattle.csdl.proofs.Logic.{any_same, count_same, first-same, first-le}
use Rattle.csdl.proofs.Reaching.{reaches_same}
use Rattle.csdl.specs.Conforms.{slot_of_item}
use Rattle.instance_image.specs.declared.instance.Instance as instances
use Rattle.instance_image.specs.Limits.{FewSlots}
use Rattle.instance_image.specs.Read.{instance_read}
use lib.ListN.{set}
use lib.Seq.{get_or-set_same, get_or-set_other}
use borrow.Author.Count.{below_more}
use Rattle.instance_containment.proofs.Climbing.{run_any}
use Rattle.instance_containment.specs.Graph.{held_if, held_by, node_in, step_in, times_in, holder_from, within_in, node26_in, held_run}

-- An item with handle h, of n nodes, that is not null (y), of an integral property (g).
held_same : (h w : ℕ) (t y g : Bool) → (t ≡ false → eqb h w ≡ false) → (eqb h w && y && g) ≡ eqb (cond (t && y && g) (suc h) 0) (suc w)
held_same h w true true true f = rw (and-true (eqb h w), and-true (eqb h w)) (sym (eqb-suc-suc h w))
held_same h w true true false f = rw (and-false (eqb h w && true)) (sym (eqb-zero-suc w))
held_same h w true false g f = rw (and-false (eqb h w)) (sym (eqb-zero-suc w))
held_same h w false y g f = rw (f refl) (sym (eqb-zero-suc w))

module _ (m : Model) (i : Instance) where
  holds-item : (w k : ℕ) → w < i.nodes → holds_item m i w k ≡ eqb (held_by m i k) (suc w)
  unfolding holds_item held_by held_if
  holds-item w k l =
      held_same (i.item_handle k) w (ltb (i.item_handle k) i.nodes) (not (is_null i k)) (integral_item m i k)
      (λ e. let h : i.nodes ≤ i.item_handle k = ltb-false (i.item_handle k) i.nodes e in ne_eqb (i.item_handle k) w (λ q. apart h q))
    where
      apart : i.nodes ≤ i.item_handle k → i.item_handle k ≡ w → ⊥
      apart p q = omega arith

  module _ (from to : ℕ → ℕ) (f : (k : ℕ) → k < i.items → from k ≡ node_of_item i k) (t : (k : ℕ) → k < i.items → to k ≡ held_by m i k) where
    holds : (w k : ℕ) → w < i.nodes → k < i.items → eqb (to k) (suc w) ≡ holds_item m i w k
    holds w k l h = rw (t k h) (sym (holds-item w k l))

    step_same : (v w : ℕ) → w < i.nodes → step_in from to i.items v w ≡ holds_node m i v w
    unfolding step_in holds_node
    step_same v w l =
        any_same (λ k. eqb (to k) (suc w) && eqb (from k) (suc v)) (λ k. holds_item m i w k && eqb (node_of_item i k) (suc v)) 0 i.items
        (λ k p q. ap₂ ◌&&◌ (holds w k l (omega arith)) (ap (λ (x : ℕ). eqb x (suc v)) (f k (omega arith))))

    node-same : (w : ℕ) → w < i.nodes → node26_in from to i.items i.nodes w ≡ node26 m i w
    unfolding node26_in node26 times_in within_in
    node-same w l =
        ap₂ ◌||◌
        (ap (λ (x : ℕ). ltb 1 x) (count_same (λ k. eqb (to k) (suc w)) (λ k. holds_item m i w k) 0 i.items (λ k p q. holds w k l (omega arith))))
        (reaches_same (λ a b. step_in from to i.items a b) (λ a b. holds_node m i a b) i.nodes (λ a b g h. step_same a b h) w w l)

    pub first_26_same : first_from (λ w. node26_in from to i.items i.nodes w) 0 i.nodes ≡ first_from (λ w. node26 m i w) 0 i.nodes
    first_26_same =
        first-same (λ w. node26_in from to i.items i.nodes w) (λ w. node26 m i w) 0 i.nodes (λ w p q. node-same w (omega arith))

-- The nodes in whose slots items stand are of the instance.
pub node_of_slot-le : (i : Instance) (s : ℕ) → node_of_slot i s ≤ i.nodes
unfolding node_of_slot
node_of_slot-le i s =
    let h : first_from (λ v. in_run (i.node_slots v) s) 0 i.nodes ≤ 0 + i.nodes = first-le (λ v. in_run (i.node_slots v) s) 0 i.nodes in
    omega (arith, h)

pub all-le : (g : ℕ → ℕ) (size most : ℕ) (l : List ℕ) → Tabulates g size l → ((k : ℕ) → g k ≤ most) → (k : ℕ) → get_or l k 0 ≤ most
all-le g size most l h b k = go (ltb k size) refl
  where
    go : (t : Bool) → ltb k size ≡ t → get_or l k 0 ≤ most
    go true e = rw (h.at k (ltb-true k size e)) (b k)
    go false e =
        let z : size ≤ k = ltb-false k size e in
        let s = h.size in
        let q : length l ≤ k = omega (arith, z, s) in
        rw (get_or-eq_default l 0 q) (omega arith)

-- A count that stops at 2 shows whether it is over 1.
pub two_more : (n : ℕ) → ltb 1 (to_two n) ≡ ltb 1 n
two_more n = go (ltb 1 n) refl
  where
    go : (b : Bool) → ltb 1 n ≡ b → ltb 1 (to_two n) ≡ ltb 1 n
    go true e = let h : 1 < n = ltb-true 1 n e in lt-ltb 1 (to_two n) (omega arith) ∙ sym e
    go false e = let h : n ≤ 1 = ltb-false 1 n e in le-ltb 1 (to_two n) (omega arith) ∙ sym e

pub times_over : (to : ℕ → ℕ) (c : ℕ) (times : List ℕ) → Tabulates (λ b. to_two (times_in to c b)) 256 times → (w : ℕ) → w < 256
    → ltb 1 (get_or times w 0) ≡ ltb 1 (times_in to c w)
times_over to c times t w l = rw (t.at w l) (two_more (times_in to c w))

-- ---- what the arrays are filled with
pub times_run : (to : ℕ → ℕ) (c w : ℕ) → to_two (times_in to c w) ≡ to_two (count_from (λ u. in_run (held_run to u) w) 0 c)
unfolding times_in
times_run to c w =
    ap to_two (sym (count_same (λ u. in_run (held_run to u) w) (λ u. eqb (to u) (suc w)) 0 c (λ u p q. run_any (to u) w)))

pub holder_run : (from to : ℕ → ℕ) (w n i : ℕ) → holder_from from to w i n ≡ left_by (λ u. held_run to u) (λ u x. from u) w i n
unfolding holder_from left_by
holder_run from to w zero i = refl
holder_run from to w (suc n) i = rw (holder_run from to w n (i + 1), run_any (to i) w)

-- One store more of a loop that fills an array from the front.
pub fill_more : (f : ℕ → ℕ) (l : List ℕ) (i x : ℕ) → i < length l → x ≡ f i → ((k : ℕ) → k < i → get_or l k 0 ≡ f k) → (k : ℕ) → k < i + 1 → get_or (set l i x) k 0 ≡ f k
fill_more f l i x h e all =
    below_more (λ k. get_or (set l i x) k 0 ≡ f k) i
    (λ k lt. get_or-set_other l i k x 0 (λ q. let z : k ≡ i = q in omega arith) ∙ all k lt)
    (get_or-set_same l i x 0 h ∙ e)

-- Slots, where they are few, and items are no more than their limits.
pub few_slots : (instance : instances.Instance) → FewSlots instance.slots.now → (instance_read instance).slots ≤ 1024
unfolding instance_read instance_of
few_slots instance few = omega (arith, few)

pub few_items : (instance : instances.Instance) → (instance_read instance).items ≤ 2048
unfolding instance_read instance_of
few_items instance = omega (arith, instance.few_items)

-- What is made of a number, if there is one, by what agrees below n.
found_same : (f g : ℕ → ℕ) (n x : ℕ) → x ≤ n → ((s : ℕ) → s < n → f s ≡ g s) → if_found 0 f x ≡ if_found 0 g x
found_same f g n zero h e = refl
found_same f g n (suc s) h e = e s (omega arith)

-- The node of an item, by the array of slots and the array of nodes.
module _ (i : Instance) (few : i.slots ≤ 1024) (item-slots slot-nodes : List ℕ) (o : Tabulates (λ k. slot_of_item i k) 2048 item-slots)
    (h : Tabulates (λ s. node_of_slot i s) 1024 slot-nodes) where
  slot-below : (k : ℕ) → slot_of_item i k ≤ 1024
  unfolding slot_of_item
  slot-below k =
      let l : first_from (λ s. in_run (i.slot_items s) k) 0 i.slots ≤ 0 + i.slots = first-le (λ s. in_run (i.slot_items s) k) 0 i.slots in
      omega (arith, l)

  pub node_in_same : (k : ℕ) → k < 2048 → node_in item-slots slot-nodes k ≡ node_of_item i k
  unfolding node_in
  node_in_same k l =
      rw (o.at k l)
      (found_same (λ s. get_or slot-nodes s 0) (λ s. node_of_slot i s) 1024 (slot_of_item i k) (slot-below k) h.at)

  pub node_in_le : (k : ℕ) → node_in item-slots slot-nodes k ≤ i.nodes
  unfolding node_in
  node_in_le k = go (get_or item-slots k 0)
    where
      go : (x : ℕ) → if_found 0 (λ s. get_or slot-nodes s 0) x ≤ i.nodes
      go zero = zero-le
      go (suc s) = all-le (λ s. node_of_slot i s) 1024 i.nodes slot-nodes h (λ s. node_of_slot-le i s) s

-- An entry and the number that it is for.
pub entry_found : (n x : ℕ) → MatchOption (found x) (n ≡ 0) (λ w. n ≡ suc w) → n ≡ x
entry_found n zero h = h
entry_found n (suc w) h = h
