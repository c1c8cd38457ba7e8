-- What the rules give, where they are unbroken at every place.
use Prim.Native.Nat.{ℕ, zero, suc, ◌+◌, ◌≤◌, ◌<◌, zero-le}
use mathlib.Core.Path.{◌≡◌, refl, sym, subst}
use mathlib.Core.Bool.{Bool, true, false, not, ◌&&◌, ◌||◌, or-true}
use mathlib.Core.Logic.{⊎_elim}
use native.Mathlib.Omega.{arith}
use lib.Dec.{eqb, ltb, leb}
use borrow.Author.Tests.{eqb-true, eqb-false, eq-eqb, ltb-true, leb-true, le-leb, not-false}
use Rattle.csdl.specs.Search.{one_if}
use Rattle.csdl.specs.Model.{Model, in_run}
use Rattle.csdl.specs.Find.{of_kind, entity, complex, structured, ancestor, is_name_of, complex_step, contain_step, integral, ancestor_or_self}
use Rattle.csdl.specs.Form.{run4cd}
use Rattle.csdl.specs.Types.{type8, type8a}
use Rattle.csdl.specs.Properties.{same_name, redeclares, property10, property10c, property11, property11a, property11b}
use Rattle.csdl.specs.Instance.{Instance}
use Rattle.csdl.specs.Conforms.{node21a, slot21b, rule21, count_unlike, nodes_with, node23, slots_of, slot24, slot24a, slot24c, carries_node, item25of, item25, node26, node26a, node26b, rule23, rule24, rule25, rule26}
use Rattle.csdl.specs.Relations.{Holds, Within}
use Rattle.csdl.specs.Relations.Within.{directly, deeper}
use Rattle.csdl.specs.Types.{rule8}
use Rattle.csdl.specs.Properties.{rule10, rule11}
use Rattle.csdl.specs.Accepted.{ModelKept, InstanceKept}
use Rattle.csdl.proofs.Logic.{true-false, or_no, or_cases, and_cases, and_both, and_no, any_none, run_in, off}
use Rattle.csdl.proofs.Numbers.{run_fits, numbers_fit}
use Rattle.csdl.proofs.Places.{of_type, of_property_lem, of_node, of_slot, of_item}
use Rattle.csdl.proofs.Relations.{to_entity, slot-once, item-once, slot_of, rule26a_decides, rule26b_decides}
use Rattle.soundness.proofs.Facts.{ModelFacts, InstanceFacts, Deep}

-- An entity type is structured; a structured type that is no entity type is complex.
entity-structured : (m : Model) (x : ℕ) → entity m x ≡ true → structured m x ≡ true
unfolding of_kind structured
entity-structured m x e =
    let c = and_cases (ltb x m.types) (eqb (m.kind x) 0) e in
    and_both (ltb x m.types) (leb (m.kind x) 1) c.0 (le-leb (m.kind x) 1 (omega (arith, eqb-true (m.kind x) 0 c.1)))

pub complex-structured : (m : Model) (x : ℕ) → complex m x ≡ true → structured m x ≡ true
unfolding of_kind structured
complex-structured m x e =
    let c = and_cases (ltb x m.types) (eqb (m.kind x) 1) e in
    and_both (ltb x m.types) (leb (m.kind x) 1) c.0 (le-leb (m.kind x) 1 (omega (arith, eqb-true (m.kind x) 1 c.1)))

else_complex : (m : Model) (x : ℕ) → structured m x ≡ true → entity m x ≡ false → complex m x ≡ true
unfolding of_kind structured
else_complex m x s n =
    let c = and_cases (ltb x m.types) (leb (m.kind x) 1) s in
    let d = eqb-false (m.kind x) 0 (and_no (ltb x m.types) (eqb (m.kind x) 0) n c.0) in
    let l = leb-true (m.kind x) 1 c.1 in
    let e : m.kind x ≡ 1 = omega arith in
    and_both (ltb x m.types) (eqb (m.kind x) 1) c.0 (eq-eqb (m.kind x) 1 e)

module _ (m : Model) (k : ModelKept m) where
  kind-kept : (t u : ℕ) → t < m.types → m.base t ≡ suc u → m.kind t ≡ m.kind u
  unfolding type8
  kind-kept t u l e =
      let a = off (type8 m t) (type8a m t) (λ q. rw q) (of_type m rule8 k.kept8 t l) in
      let f = not-false (eqb (m.kind u) (m.kind t)) (rw e at a) in
      sym (eqb-true (m.kind u) (m.kind t) f)

  complex-kept : (p : ℕ) → p < m.properties → m.navigation p ≡ false → structured m (m.type_ref p) ≡ true → complex m (m.type_ref p) ≡ true
  unfolding property10
  complex-kept p l n s =
      let a = off (property10 m p) (property10c m p) (λ q. simp (q, or-true)) (of_property_lem m rule10 k.kept10 p l) in
      else_complex m (m.type_ref p) s (and_no (not (m.navigation p)) (entity m (m.type_ref p)) a (rw n))

  redeclared_kept : (p q : ℕ) → p < m.properties → q < m.properties → ancestor m (m.owner q) (m.owner p) ≡ true → same_name m p q ≡ true →
      redeclares m p q ≡ true
  unfolding property11 property11b
  redeclared_kept p q lp lq d n =
      let test : ℕ → Bool = λ z. ancestor m (m.owner z) (m.owner p) && same_name m p z && not (redeclares m p z) in
      let a = (or_no (property11a m p) (property11b m p) (of_property_lem m rule11 k.kept11 p lp)).1 in
      let b = any_none test 0 m.properties a q zero-le (omega arith) in
      not-false (redeclares m p q)
      (and_no (ancestor m (m.owner q) (m.owner p) && same_name m p q) (not (redeclares m p q)) b
      (and_both (ancestor m (m.owner q) (m.owner p)) (same_name m p q) d n))

  pub model_facts : ((t : ℕ) → m.types ≤ t → m.base t ≡ 0) → ModelFacts m
  model_facts past =
      record {
        base-small = (numbers_fit m k.kept4).base_there;
        base-none = past;
        base-kind = kind-kept;
        navigates = λ p l n. entity-structured m (m.type_ref p) (to_entity m p (of_property_lem m rule10 k.kept10 p l) n);
        structural = complex-kept;
        redeclared = redeclared_kept;
      }

-- An integral property has a structured type.
integral-structured : (m : Model) → ModelFacts m → (p : ℕ) → p < m.properties → integral m p ≡ true → structured m (m.type_ref p) ≡ true
unfolding integral complex_step contain_step
integral-structured m f p l e =
    ⊎_elim (λ h. complex-structured m (m.type_ref p) (and_cases (not (m.navigation p)) (complex m (m.type_ref p)) h).1)
    (λ h. f.navigates p l (and_cases (m.navigation p) (m.contains p) h).0) (or_cases (complex_step m p) (contain_step m p) e)

module _ (m : Model) (i : Instance) (f : ModelFacts m) (k : InstanceKept m i) (states : (s : ℕ) → i.state s < 4) where
  node-fits : (v : ℕ) → v < i.nodes → (i.node_type v < m.types) × ((i.node_slots v).first + (i.node_slots v).count ≤ i.slots)
  unfolding rule21 node21a
  node-fits v l =
      let a = not (eqb (i.node_spare v) 0) in
      let b = not (ltb (i.node_type v) m.types) in
      let e = or_no (a || b) (run4cd i.slots (i.node_slots v)) (of_node m i rule21 k.kept21 v l) in
      (ltb-true (i.node_type v) m.types (not-false (ltb (i.node_type v) m.types) (or_no a b e.0).1), run_fits i.slots (i.node_slots v) e.1)

  record SlotFits (s : ℕ) : Type 0 where
    property-below : i.slot_property s < m.properties
    not_three : i.state s ≡ 3 → ⊥
    one_of : i.state s ≡ 1 → (i.slot_items s).count ≡ 1
    items-within : (i.slot_items s).first + (i.slot_items s).count ≤ i.items

  slot-fits : (s : ℕ) → s < i.slots → SlotFits s
  unfolding rule21 slot21b count_unlike
  slot-fits s l =
      let a = not (eqb (i.slot_spare s) 0) in
      let b = not (ltb (i.slot_property s) m.properties) in
      let c = eqb (i.state s) 3 in
      let none = eqb (i.state s) 0 && not (eqb (i.slot_items s).count 0) in
      let one = eqb (i.state s) 1 && not (eqb (i.slot_items s).count 1) in
      let r = run4cd i.items (i.slot_items s) in
      let e5 = or_no (a || b || c || (none || one) || r) (not (eqb (nodes_with i s) 1)) (of_slot m i rule21 k.kept21 s l) in
      let e4 = or_no (a || b || c || (none || one)) r e5.0 in
      let e3 = or_no (a || b || c) (none || one) e4.0 in
      let e2 = or_no (a || b) c e3.0 in
      record {
        property-below = ltb-true (i.slot_property s) m.properties (not-false (ltb (i.slot_property s) m.properties) (or_no a b e2.0).1);
        not_three = eqb-false (i.state s) 3 e2.1;
        one_of = λ z. eqb-true (i.slot_items s).count 1 (not-false (eqb (i.slot_items s).count 1)
            (and_no (eqb (i.state s) 1) (not (eqb (i.slot_items s).count 1)) (or_no none one e3.1).1 (eq-eqb (i.state s) 1 z)));
        items-within = run_fits i.items (i.slot_items s) e4.1;
      }

  item-within : (s n : ℕ) → s < i.slots → in_run (i.slot_items s) n ≡ true → n < i.items
  item-within s n l e = let r = run_in (i.slot_items s) n e in omega (arith, (slot-fits s l).items-within)

  state_two : (s : ℕ) → s < i.slots → i.state s ≤ 2
  state_two s l = let n = (slot-fits s l).not_three in omega (arith, states s, n)

  named-kept : (v p : ℕ) → v < i.nodes → p < m.properties → slots_of i v p ≡ one_if (is_name_of m (i.node_type v) p)
  unfolding node23
  named-kept v p l lp =
      let test : ℕ → Bool = λ q. not (eqb (slots_of i v q) (one_if (is_name_of m (i.node_type v) q))) in
      let a = any_none test 0 m.properties (of_node m i rule23 k.kept23 v l) p zero-le (omega arith) in
      eqb-true (slots_of i v p) (one_if (is_name_of m (i.node_type v) p)) (not-false (eqb (slots_of i v p) (one_if (is_name_of m (i.node_type v) p))) a)

  null-kept : (s : ℕ) → s < i.slots → i.state s ≡ 0 → m.nullable (i.slot_property s) ≡ true
  unfolding slot24
  null-kept s l z =
      let c = m.collection (i.slot_property s) in
      let n = m.nullable (i.slot_property s) in
      let a = off (slot24 m i s) (slot24a m i s) (λ q. rw q) (of_slot m i rule24 k.kept24 s l) in
      let b = and_no (eqb (i.state s) 0) (c || not n) a (eq-eqb (i.state s) 0 z) in
      not-false n (or_no c (not n) b).1

  many_kept : (s : ℕ) → s < i.slots → i.state s ≡ 2 → m.collection (i.slot_property s) ≡ true
  unfolding slot24
  many_kept s l z =
      let c = m.collection (i.slot_property s) in
      let a = off (slot24 m i s) (slot24c m i s) (λ q. simp (q, or-true)) (of_slot m i rule24 k.kept24 s l) in
      not-false c (and_no (eqb (i.state s) 2) (not c) a (eq-eqb (i.state s) 2 z))

  item-kept : (s n : ℕ) → s < i.slots → in_run (i.slot_items s) n ≡ true → item25of m i (i.slot_property s) n ≡ false
  unfolding item25
  item-kept s n l e =
      let b = item-within s n l e in
      rw (slot_of m i k.kept21 s n l b e) at (of_item m i rule25 k.kept25 n b)

  -- What is held by an integral item is a node.
  held_small : (v w : ℕ) → Holds m i v w → w < i.nodes
  unfolding item25of carries_node
  held_small v w h =
      let s = h.slot in
      let n = h.item in
      let p = i.slot_property s in
      let st = integral-structured m f p (slot-fits s h.slot-there).property-below h.is-integral in
      let e = rw (h.not_null, st) at (item-kept s n h.slot-there h.of_slot) in
      let c = not-false (carries_node m i (m.type_ref p) n) e in
      let x = ltb (i.item_handle n) i.nodes in
      let y = eqb (i.item_ref n) (i.node_type (i.item_handle n)) in
      let d = (and_cases x y (and_cases (x && y) (ancestor_or_self m (m.type_ref p) (i.item_ref n)) c).0).0 in
      rw (← h.number) (ltb-true (i.item_handle n) i.nodes d)

  node_kept : (w : ℕ) → w < i.nodes → (node26a m i w ≡ false) × (node26b m i w ≡ false)
  unfolding node26
  node_kept w l = or_no (node26a m i w) (node26b m i w) (of_node m i rule26 k.kept26 w l)

  once-kept : (v x w : ℕ) (h : Holds m i v w) (g : Holds m i x w) → h.item ≡ g.item
  once-kept v x w h g = go (eqb h.item g.item) refl
    where
      go : (b : Bool) → eqb h.item g.item ≡ b → h.item ≡ g.item
      go true e = eqb-true h.item g.item e
      go false e =
          true-false (node26a m i w)
          ((rule26a_decides m i k.kept21 w).1 record { node = v; other-node = x; holds = h; other-holds = g; other_item = eqb-false h.item g.item e })
          (node_kept w (held_small v w h)).0

  deep_within : (d a w : ℕ) → Deep m i a (suc d) w → Within m i a w
  unfolding Deep
  deep_within zero a w (v, h, e) = directly {w = w} (subst (λ (x : ℕ). Holds m i x w) e h)
  deep_within (suc d) a w (v, h, r) = deeper (deep_within d a v r) h

  deep_small : (d a w : ℕ) → Deep m i a (suc d) w → w < i.nodes
  unfolding Deep
  deep_small d a w (v, h, r) = held_small v w h

  not-within-kept : (d v : ℕ) → Deep m i v (suc d) v → ⊥
  not-within-kept d v r =
      let l = deep_small d v v r in
      true-false (node26b m i v) ((rule26b_decides m i k.kept21 v l).1 (deep_within d v v r)) (node_kept v l).1

  pub instance_facts : InstanceFacts m i
  instance_facts =
      record {
        type-small = λ v l. (node-fits v l).0;
        slots_fit = λ v s l e. let r = run_in (i.node_slots v) s e in omega (arith, (node-fits v l).1);
        property-small = λ s l. (slot-fits s l).property-below;
        state_known = state_two;
        single-one = λ s l. (slot-fits s l).one_of;
        items_fit = λ s l. (slot-fits s l).items-within;
        slot-once = slot-once m i k.kept21;
        item-once = item-once m i k.kept21;
        slots-named = named-kept;
        null-fits = null-kept;
        many_fits = many_kept;
        item-fits = item-kept;
        held_once = once-kept;
        not_within = not-within-kept;
      }
