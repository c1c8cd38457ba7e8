-- What was found in a table of an instance, as the lowest of all places. Assumes nothing.
use Prim.Native.Nat.{ℕ, zero, suc, ◌+◌}
use mathlib.Core.Path.{◌≡◌, refl, sym, ap, ◌∙◌}
use mathlib.Core.Bool.{Bool, true, false, false≢true}
use Rattle.std.proofs.Common.{Option, Some, None, is_some}
use Rattle.std.specs.Option.{option_map, option_or}
use Rattle.csdl.specs.Search.{first_from, found, or_else, place_found}
use Rattle.csdl.specs.Instance.{Instance, slots_at, items_at, instance_places, instance_record_at, on_node, on_slot, on_item}
use Rattle.csdl.specs.declared.InstanceRecord.{InstanceRecord}
use Rattle.csdl.specs.declared.InstanceRecord.TheVariants.{OfNode, OfSlot, OfItem}
use Rattle.instance_values.proofs.Places.{first_record, nodes-only, slots-only, items-only}
use Rattle.model_rules.proofs.Placed.{moved, found_or}

module _ (i : Instance) (test : ℕ → Bool) {x : Option ℕ} where
  pub node_placed : x ≡ found (first_from test 0 i.nodes) → x ≡ found (first_from (λ place. on_node test (instance_record_at i place)) 0 (instance_places i))
  node_placed e = e ∙ ap (λ (z : ℕ). found z) (sym (nodes-only i test))

  pub slot_placed : {first : ℕ} {y : Option ℕ} → first ≡ slots_at i → x ≡ found (first_from test 0 i.slots) → y ≡ option_map (λ k. first + k) x
      → y ≡ found (first_from (λ place. on_slot test (instance_record_at i place)) 0 (instance_places i))
  slot_placed a e f = f ∙ rw (e, a) (moved (slots_at i) (first_from test 0 i.slots) ∙ ap (λ (z : ℕ). found z) (sym (slots-only i test)))

  pub item_placed : {first : ℕ} {y : Option ℕ} → first ≡ items_at i → x ≡ found (first_from test 0 i.items) → y ≡ option_map (λ k. first + k) x
      → y ≡ found (first_from (λ place. on_item test (instance_record_at i place)) 0 (instance_places i))
  item_placed a e f = f ∙ rw (e, a) (moved (items_at i) (first_from test 0 i.items) ∙ ap (λ (z : ℕ). found z) (sym (items-only i test)))

grouped : (a b c : ℕ) → or_else (or_else a b) c ≡ or_else a (or_else b c)
grouped zero b c = refl
grouped (suc a) b c = refl

-- A rule of all three tables: a node goes before a slot, and a slot before an item.
module _ (i : Instance) (test : InstanceRecord → Bool) {x y z s k w r : Option ℕ} {slots items : ℕ} where
  pub all_placed : x ≡ found (first_from (λ v. test (OfNode v)) 0 i.nodes)
      → slots ≡ slots_at i → y ≡ found (first_from (λ s. test (OfSlot s)) 0 i.slots) → s ≡ option_map (λ n. slots + n) y
      → items ≡ items_at i → z ≡ found (first_from (λ k. test (OfItem k)) 0 i.items) → k ≡ option_map (λ n. items + n) z
      → w ≡ option_or x s → r ≡ option_or w k → r ≡ found (first_from (λ place. test (instance_record_at i place)) 0 (instance_places i))
  all_placed a b f g c h j d e =
      let v = first_from (λ v. test (OfNode v)) 0 i.nodes in
      let n = first_from (λ s. test (OfSlot s)) 0 i.slots in
      let u = first_from (λ k. test (OfItem k)) 0 i.items in
      let t : s ≡ found (place_found (slots_at i) n) = g ∙ rw (f, b) (moved (slots_at i) n) in
      let q : k ≡ found (place_found (items_at i) u) = j ∙ rw (h, c) (moved (items_at i) u) in
      e ∙ rw (d, a, t, q, found_or, found_or, grouped) (ap (λ (z : ℕ). found z) (sym (first_record i test)))

-- Searches of which the later were not needed.
pub first_kept : (x : Option ℕ) → is_some x ≡ true → (s k : Option ℕ) → x ≡ option_or (option_or x s) k
first_kept None h s k = absurd (false≢true h)
first_kept (Some n) h s k = refl

pub second_kept : (x s : Option ℕ) → is_some x ≡ false → is_some s ≡ true → (k : Option ℕ) → s ≡ option_or (option_or x s) k
second_kept (Some n) s e h k = absurd (false≢true (sym e))
second_kept None None e h k = absurd (false≢true h)
second_kept None (Some n) e h k = refl

pub third_kept : (x s : Option ℕ) → is_some x ≡ false → is_some s ≡ false → (k : Option ℕ) → k ≡ option_or (option_or x s) k
third_kept (Some n) s e h k = absurd (false≢true (sym e))
third_kept None (Some n) e h k = absurd (false≢true (sym h))
third_kept None None e h k = refl
