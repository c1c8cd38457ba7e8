-- The bytes of a result say whether it is null: a result that is not null is never written as 255 with handle 0.
use Prim.Native.Nat.{ℕ, zero, suc, ◌+◌, ◌*◌, ◌/◌, ◌%◌, ◌<◌}
use mathlib.Core.Path.{◌≡◌, refl, sym, ◌∙◌}
use mathlib.Core.List.{List, [], ◌∷◌}
use mathlib.Core.Bool.{Bool, true, false, cond, ◌&&◌}
use native.Mathlib.Nat.{mod-eq_of_lt}
use native.Mathlib.Omega.{arith}
use lib.Dec.{eqb}
use borrow.Author.Tests.{ne_eqb}
use Rattle.packed.proofs.Laws.{field_lt}
use Rattle.csdl.specs.Search.{tab}
use Rattle.csdl.specs.Model.{Model}
use Rattle.csdl.specs.Find.{structured, ancestor_or_self}
use Rattle.csdl.specs.Path.{Segment}
use Rattle.csdl.specs.Path.Segment.{name, cast}
use Rattle.csdl.specs.Instance.{Instance, instance_of, instance_in}
use Rattle.csdl.specs.Conforms.{is_null}
use Rattle.csdl.specs.Walk.{Item, slot_named, item_at, contents, contents_by, opening, after, next_stage, walked, start, bytes_of_number, bytes_of_item}
use Rattle.csdl.specs.Walk.Item.{null, value}
use Rattle.csdl.specs.Walk.Origin.{at_slot, at-cast}
use Rattle.csdl.specs.Accepted.{IsNull}
use Rattle.csdl.proofs.Logic.{true-false}
use Rattle.soundness.specs.Lists.{All}
use Rattle.soundness.specs.Lists.All.{none, both}
use Rattle.soundness.proofs.Lists.{all_map, all-flat, all-tab}

-- An item that is not null has other numbers than null has, and a handle of three bytes.
unfoldable pub Plain : Item → Type 0
Plain (null o) = Unit {0}
Plain (value r h) = ((eqb r 255 && eqb h 0) ≡ false) × (h < 16777216)

module _ (m : Model) (i : Instance) (small : (k : ℕ) → i.item_handle k < 16777216) where
  item_plain : (s k : ℕ) → Plain (item_at i s k)
  unfolding Plain item_at is_null
  item_plain s k = go (eqb (i.item_ref k) 255 && eqb (i.item_handle k) 0) refl
    where
      go : (b : Bool) → (eqb (i.item_ref k) 255 && eqb (i.item_handle k) 0) ≡ b → Plain (cond b (null (at_slot s)) (value (i.item_ref k) (i.item_handle k)))
      go true e = tt
      go false e = (e, small k)

  contents_plain : (s : ℕ) → All Plain (contents i s)
  unfolding Plain contents
  contents_plain s = go (eqb (i.state s) 0)
    where
      go : (b : Bool) → All Plain (cond b (null (at_slot s) ∷ []) (tab (λ k. item_at i s k) (i.slot_items s).first (i.slot_items s).count))
      go true = both {x = null (at_slot s)} tt none
      go false = all-tab Plain (λ k. item_at i s k) (i.slot_items s).first (i.slot_items s).count (λ k a b. item_plain s k)

  after_plain : (g : Segment) (x : Item) → Plain x → All Plain (after m i g x)
  unfolding Plain after opening
  after_plain (name nm) (null o) h = both {x = null o} tt none
  after_plain (name nm) (value r v) h = go (cond (structured m r) (slot_named m i nm v) 0)
    where
      go : (z : ℕ) → All Plain (contents_by i z)
      go zero = none
      go (suc s) = contents_plain s
  after_plain (cast c) (null o) h = both {x = null o} tt none
  after_plain (cast c) (value r v) h = go (structured m r) (ancestor_or_self m c r)
    where
      go : (a b : Bool) → All Plain (cond a (cond b (value r v) (null (at-cast c v)) ∷ []) [])
      go true true = both {x = value r v} h none
      go true false = both {x = null (at-cast c v)} tt none
      go false b = none

  walked_plain : (gs : List Segment) (xs : List Item) → All Plain xs → All Plain (walked m i gs xs)
  unfolding walked
  walked_plain [] xs h = h
  walked_plain (g ∷ gs) xs h = walked_plain gs (next_stage m i g xs) (all-flat (λ x. after m i g x) (all_map (after_plain g) h))

-- Of any walk through the instance of an image, from a node whose number is small.
pub results_plain : (m : Model) (image : List ℕ) (gs : List Segment) (v : ℕ) → v < 16777216 →
    All Plain (walked m (instance_in image) gs (start (instance_in image) v))
unfolding Plain instance_in instance_of
results_plain m image gs v l =
    let r = (instance_in image).node_type v in
    let t : r < 64 = field_lt _ (32 * v) 6 in
    let e : (eqb r 255 && eqb v 0) ≡ false = rw (ne_eqb r 255 (λ q. omega arith)) in
    walked_plain m (instance_in image) (λ k. field_lt _ (32 * k + 8) 24) gs (start (instance_in image) v) (both {x = value r v} (e, l) none)

-- The four bytes of null are those of no other item; the handle is in the last three, high byte first.
handle-zero : (h : ℕ) → h < 16777216 → h / 65536 % 256 ≡ 0 → h / 256 % 256 ≡ 0 → h / 1 % 256 ≡ 0 → h ≡ 0
handle-zero h l b c d =
    let q : h / 65536 < 256 = omega arith in
    let high : h / 65536 ≡ 0 = sym (mod-eq_of_lt q) ∙ b in
    let k : h / 256 < 256 = omega (arith, high) in
    let middle : h / 256 ≡ 0 = sym (mod-eq_of_lt k) ∙ c in
    let n : h / 1 < 256 = omega (arith, middle) in
    let last : h / 1 ≡ 0 = sym (mod-eq_of_lt n) ∙ d in
    omega (arith, last)

pub null-bytes : (x : Item) → Plain x → bytes_of_item x ≡ 255 ∷ 0 ∷ 0 ∷ 0 ∷ [] → IsNull x
unfolding Plain bytes_of_item bytes_of_number
null-bytes (null o) p e = tt
null-bytes (value r h) p e =
    let a : r ≡ 255 = cc in
    let b : h / 65536 % 256 ≡ 0 = cc in
    let c : h / 256 % 256 ≡ 0 = cc in
    let d : h / 1 % 256 ≡ 0 = cc in
    let z = handle-zero h p.1 b c d in
    true-false (eqb r 255 && eqb h 0) (rw (a, z)) p.0
