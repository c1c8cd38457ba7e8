-- How many results there are, and how many items.
use Prim.Native.Nat.{ℕ, zero, suc, ◌+◌, ◌-◌, ◌*◌, ◌≤◌, min, max}
use mathlib.Core.Path.{◌≡◌, refl, ap₂, ◌∙◌}
use mathlib.Core.List.{List, [], ◌∷◌}
use mathlib.Core.Bool.{Bool, true, false, cond, ◌&&◌}
use native.Mathlib.Omega.{arith}
use lib.ListN.{length, length-append}
use lib.Dec.{eqb, ltb, leb}
use borrow.Author.Tests.{ltb-true, ltb-false, leb-true, leb-false}
use Rattle.csdl.specs.Search.{one_if, count_from, sum_from, tab, flat}
use Rattle.csdl.specs.declared.Run.{Run}
use Rattle.csdl.specs.Model.{Model, in_run}
use Rattle.csdl.specs.Find.{structured, ancestor_or_self}
use Rattle.csdl.specs.Path.{Segment}
use Rattle.csdl.specs.Path.Segment.{name, cast}
use Rattle.csdl.specs.Instance.{Instance, item_bytes}
use Rattle.csdl.specs.Conforms.{slots_with}
use Rattle.csdl.specs.Walk.{Item, slot_named, item_at, contents, contents_by, opening, opened_by, after, next_stage, walked, opened, bytes_of_number, bytes_of_item}
use Rattle.csdl.specs.Walk.Item.{null, value}
use Rattle.csdl.specs.Walk.Origin.{at_slot, at-cast}
use Rattle.csdl.proofs.Logic.{sum_same, tab-length}
use Rattle.soundness.proofs.Facts.{InstanceFacts}
use Rattle.soundness.proofs.Lists.{sum, sum_append, sum_add, sum_ones, sum_swap}

-- What a slot may add: itself, if it is null, or its items.
abbrev pub weight : Instance → ℕ → ℕ
weight i s = 1 + (i.slot_items s).count

contents-length : (i : Instance) (s : ℕ) → length (contents i s) ≤ weight i s
unfolding contents
contents-length i s = go (eqb (i.state s) 0)
  where
    go : (b : Bool) → length (cond b (null (at_slot s) ∷ []) (tab (λ n. item_at i s n) (i.slot_items s).first (i.slot_items s).count)) ≤ 1 + (i.slot_items s).count
    go true = omega arith
    go false = omega (arith, tab-length (λ n. item_at i s n) (i.slot_items s).first (i.slot_items s).count)

module _ (m : Model) (i : Instance) where
  after-length : (g : Segment) (x : Item) → length (after m i g x) ≤ 1 + sum (weight i) (opened_by (opening m i g x))
  unfolding after opening sum
  after-length (name nm) (null o) = omega arith
  after-length (name nm) (value r v) = go (cond (structured m r) (slot_named m i nm v) 0)
    where
      go : (z : ℕ) → length (contents_by i z) ≤ 1 + sum (weight i) (opened_by z)
      go zero = omega arith
      go (suc s) = omega (arith, contents-length i s)
  after-length (cast c) (null o) = omega arith
  after-length (cast c) (value r v) = go (structured m r) (ancestor_or_self m c r)
    where
      go : (a b : Bool) → length (cond a (cond b (value r v) (null (at-cast c v)) ∷ []) []) ≤ 1
      go true b = omega arith
      go false b = omega arith

  stage_length : (g : Segment) (xs : List Item) → length (next_stage m i g xs) ≤ length xs + sum (weight i) (flat (λ x. opened_by (opening m i g x)) xs)
  unfolding flat sum
  stage_length g [] = omega arith
  stage_length g (x ∷ l) =
      omega (
        arith,
        after-length g x,
        stage_length g l,
        length-append (after m i g x) (next_stage m i g l),
        sum_append (weight i) (opened_by (opening m i g x)) (flat (λ y. opened_by (opening m i g y)) l),
      )

  pub walked-length : (gs : List Segment) (xs : List Item) → length (walked m i gs xs) ≤ length xs + sum (weight i) (opened m i gs xs)
  unfolding walked opened sum
  walked-length [] xs = omega arith
  walked-length (g ∷ gs) xs =
      omega (
        arith,
        stage_length g xs,
        walked-length gs (next_stage m i g xs),
        sum_append (weight i) (flat (λ x. opened_by (opening m i g x)) xs) (opened m i gs (next_stage m i g xs)),
      )

-- How many of the n numbers from i on are of the run.
run_length : (r : Run) (i n : ℕ) → count_from (λ k. in_run r k) i n ≡ min (i + n) (r.first + r.count) - max i r.first
unfolding sum_from
run_length r i zero = omega arith
run_length r i (suc n) = go (run_length r (i + 1) n) (leb r.first i) refl (ltb i (r.first + r.count)) refl
  where
    f : ℕ
    f = r.first

    e : ℕ
    e = r.first + r.count

    go : count_from (λ k. in_run r k) (i + 1) n ≡ min (i + 1 + n) e - max (i + 1) f →
        (a : Bool) → leb f i ≡ a → (b : Bool) → ltb i e ≡ b → one_if (leb f i && ltb i e) + count_from (λ k. in_run r k) (i + 1) n ≡ min (i + suc n) e - max i f
    go rest true p true q = let z : one_if (leb f i && ltb i e) ≡ 1 = rw (p, q) in omega (arith, leb-true f i p, ltb-true i e q)
    go rest true p false q = let z : one_if (leb f i && ltb i e) ≡ 0 = rw (p, q) in omega (arith, leb-true f i p, ltb-false i e q)
    go rest false p b q = let z : one_if (leb f i && ltb i e) ≡ 0 = rw p in omega (arith, leb-false f i p)

module _ (m : Model) (i : Instance) (j : InstanceFacts m i) where
  -- The runs of the slots have all items, each once.
  all-items : sum_from (λ s. (i.slot_items s).count) 0 i.slots ≡ i.items
  unfolding slots_with
  all-items =
      sum_same (λ s. (i.slot_items s).count) (λ s. count_from (λ k. in_run (i.slot_items s) k) 0 i.items) 0 i.slots
      (λ s a b. let z = run_length (i.slot_items s) 0 i.items in let y = j.items_fit s (omega arith) in omega arith)
      ∙ sum_swap (λ s k. one_if (in_run (i.slot_items s) k)) 0 i.slots 0 i.items
      ∙ sum_same (λ k. slots_with i k) (λ k. 1) 0 i.items (λ k a b. j.item-once k (omega arith))
      ∙ sum_ones 0 i.items

  pub all_weight : sum_from (weight i) 0 i.slots ≡ i.slots + i.items
  all_weight = sum_add (λ s. 1) (λ s. (i.slot_items s).count) 0 i.slots ∙ ap₂ ◌+◌ (sum_ones 0 i.slots) all-items

-- The bytes of the items.
pub item-length : (x : Item) → length (bytes_of_item x) ≡ item_bytes
unfolding bytes_of_item bytes_of_number
item-length (null o) = refl
item-length (value r h) = refl

pub bytes-length : (xs : List Item) → length (flat (λ x. bytes_of_item x) xs) ≡ item_bytes * length xs
unfolding flat
bytes-length [] = refl
bytes-length (x ∷ l) = omega (arith, length-append (bytes_of_item x) (flat (λ y. bytes_of_item y) l), item-length x, bytes-length l)
