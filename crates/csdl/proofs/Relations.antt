-- The tests of rules 9, 12 and 26 decide the relations of specs/Relations, where the lower rules are kept.
use Prim.Native.Nat.{ℕ, suc, ◌<◌, zero-le}
use mathlib.Core.Path.{◌≡◌, refl, sym, ap, ◌∙◌}
use mathlib.Core.Bool.{Bool, true, false, not, ◌&&◌, ◌||◌}
use mathlib.Core.Logic.{◌↔◌, ⊎_elim}
use native.Mathlib.Omega.{arith}
use lib.Dec.{eqb, ltb}
use borrow.Author.Tests.{eqb-true, eq-eqb, ltb-true, lt-ltb, not-false, not-true}
use Rattle.csdl.specs.Search.{count_from}
use Rattle.csdl.specs.Climb.{reaches}
use Rattle.csdl.specs.Model.{Model, in_run}
use Rattle.csdl.specs.Find.{of_kind, entity, complex, ancestor, ancestor_or_self, integral, complex_step, contain_step}
use Rattle.csdl.specs.Form.{rule4, run4cd}
use Rattle.csdl.specs.Types.{type9}
use Rattle.csdl.specs.Properties.{property10a, property10b, property10c, property10d, property10e, property10f, property10g, property10h, property10, rule10, required, required_step, type12}
use Rattle.csdl.specs.Instance.{Instance}
use Rattle.csdl.specs.Conforms.{nodes_with, slots_with, count_unlike, slot21b, item21c, rule21, slot_of_item, node_of_slot, integral_item, node_of_item, is_null, holds_item, holds_node, node26a, node26b}
use Rattle.csdl.specs.Relations.{Closed, Ancestor, Belongs, Requires, Reaches, Holds, HeldTwice, Within}
use Rattle.csdl.specs.Relations.Ancestor.{its_base, above_base}
use Rattle.csdl.specs.Relations.Belongs.{itself, inherited}
use Rattle.csdl.specs.Relations.Reaches.{one, more}
use Rattle.csdl.specs.Relations.Within.{directly, deeper}
use Rattle.csdl.specs.Accepted.{Kept, Fulfilled}
use Rattle.csdl.proofs.Logic.{or_cases, or_left, or_right, or_no, and_cases, and_both, and_no, any_found, any_of, first_found, first_of, at_most_one, some_found, two_found, two_of}
use Rattle.csdl.proofs.Climbing.{Above, climb_sound, climb_found}
use Rattle.csdl.proofs.Climbing.Above.{is-next, of_next}
use Rattle.csdl.proofs.Reaching.{Reach, reaches_sound, reaches_found}
use Rattle.csdl.proofs.Reaching.Reach.{in_one, in_more}
use Rattle.csdl.proofs.Places.{of_property_lem, of_slot, of_item}
use Rattle.csdl.proofs.Numbers.{numbers_fit}

-- Ancestors.
pub ancestor_of : (m : Model) {a t : ℕ} → Above m.base a t → Ancestor m a t
ancestor_of m (is-next e) = its_base e
ancestor_of m (of_next e r) = above_base e (ancestor_of m r)

pub above_of : (m : Model) {a t : ℕ} → Ancestor m a t → Above m.base a t
above_of m (its_base e) = is-next e
above_of m (above_base e r) = of_next e (above_of m r)

pub closed : (m : Model) → Kept m rule4 → Closed m
closed m kept = (numbers_fit m kept).base_there

pub ancestor_sound : (m : Model) (a t : ℕ) → ancestor m a t ≡ true → Ancestor m a t
unfolding ancestor
ancestor_sound m a t e = ancestor_of m (climb_sound m.base a m.types t e)

pub ancestor_found : (m : Model) → Closed m → (a t : ℕ) → t < m.types → Ancestor m a t → ancestor m a t ≡ true
unfolding ancestor
ancestor_found m c a t l r = climb_found m.base a m.types c t l (above_of m r)

pub ancestor_decides : (m : Model) → Kept m rule4 → (a t : ℕ) → t < m.types → (ancestor m a t ≡ true) ↔ Ancestor m a t
ancestor_decides m kept a t l = (ancestor_sound m a t, ancestor_found m (closed m kept) a t l)

-- Rule 9: a type is its own ancestor.
pub rule9_decides : (m : Model) → Kept m rule4 → (t : ℕ) → t < m.types → (type9 m t ≡ true) ↔ Ancestor m t t
unfolding type9
rule9_decides m kept t l = ancestor_decides m kept t t l

-- A type of a kind is a type of the model; a navigation property's type is an entity type, by rule 10.
pub kind-below : (m : Model) (k x : ℕ) → of_kind m k x ≡ true → x < m.types
unfolding of_kind
kind-below m k x e = ltb-true x m.types (and_cases (ltb x m.types) (eqb (m.kind x) k) e).0

pub to_entity : (m : Model) (p : ℕ) → property10 m p ≡ false → m.navigation p ≡ true → entity m (m.type_ref p) ≡ true
unfolding property10
to_entity m p e n =
    let a = property10a m p in
    let b = property10b m p in
    let c = property10c m p in
    let d = property10d m p in
    let f = property10e m p in
    let g = property10f m p in
    let h = property10g m p in
    let i = property10h m p in
    let x = (or_no (a || b || c || d || f || g) h (or_no (a || b || c || d || f || g || h) i e).0).0 in
    let y = (or_no (a || b || c || d) f (or_no (a || b || c || d || f) g x).0).0 in
    let z = (or_no (a || b) c (or_no (a || b || c) d y).0).0 in
    not-false (entity m (m.type_ref p)) (and_no (m.navigation p) (not (entity m (m.type_ref p))) (or_no a b z).1 n)

-- Rule 12: a step by a required property.
module _ (m : Model) where
  belongs_sound : (p t : ℕ) → ancestor_or_self m (m.owner p) t ≡ true → Belongs m t p
  unfolding ancestor_or_self
  belongs_sound p t e =
      ⊎_elim (λ h. itself (sym (eqb-true t (m.owner p) h))) (λ h. inherited (ancestor_sound m (m.owner p) t h))
      (or_cases (eqb t (m.owner p)) (ancestor m (m.owner p) t) e)

  belongs_found : Closed m → {p t : ℕ} → t < m.types → Belongs m t p → ancestor_or_self m (m.owner p) t ≡ true
  unfolding ancestor_or_self
  belongs_found c {t = t} l (itself {p} e) = or_left (eqb t (m.owner p)) (ancestor m (m.owner p) t) (eq-eqb t (m.owner p) (sym e))
  belongs_found c {t = t} l (inherited {p} r) = or_right (eqb t (m.owner p)) (ancestor m (m.owner p) t) (ancestor_found m c (m.owner p) t l r)

  abbrev gives : ℕ → ℕ → ℕ → Bool
  gives t u p = required m p && eqb (m.type_ref p) u && ancestor_or_self m (m.owner p) t

  pub required_sound : (t u : ℕ) → required_step m t u ≡ true → Requires m t u
  unfolding required_step required
  required_sound t u e =
      let w = any_found (gives t u) 0 m.properties e in
      let p = w.0 in
      let c = and_cases (required m p && eqb (m.type_ref p) u) (ancestor_or_self m (m.owner p) t) w.3 in
      let d = and_cases (required m p) (eqb (m.type_ref p) u) c.0 in
      let r = and_cases (not (m.collection p) && not (m.nullable p)) (integral m p) d.0 in
      let s = and_cases (not (m.collection p)) (not (m.nullable p)) r.0 in
      record {
        property = p;
        in_table = omega arith;
        belongs = belongs_sound p t c.1;
        single = not-true (m.collection p) s.0;
        not-nullable = not-true (m.nullable p) s.1;
        complex-or_contained = r.1;
        leads_to = eqb-true (m.type_ref p) u d.1;
      }

  pub required_found : Closed m → (t u : ℕ) → t < m.types → Requires m t u → required_step m t u ≡ true
  unfolding required_step required
  required_found c t u l r =
      let p = r.property in
      any_of (gives t u) 0 m.properties p zero-le (omega (arith, r.in_table))
      (rw (r.single, r.not-nullable, r.complex-or_contained, eq-eqb (m.type_ref p) u r.leads_to) (belongs_found c l r.belongs))

  reached_sound : {a b : ℕ} → Reach (λ x y. required_step m x y) m.types a b → Reaches m a b
  reached_sound {a} (in_one {b} e) = one (required_sound a b e)
  reached_sound {a} (in_more {b} {c} l r e) = more (reached_sound r) (required_sound c b e)

  module _ (kept4 : Kept m rule4) (kept10 : Kept m rule10) where
    -- A complex or containment property's type is a type of the model.
    integral-type : (p : ℕ) → p < m.properties → integral m p ≡ true → m.type_ref p < m.types
    unfolding integral complex_step contain_step
    integral-type p l e =
        ⊎_elim (λ h. kind-below m 1 (m.type_ref p) (and_cases (not (m.navigation p)) (complex m (m.type_ref p)) h).1)
        (λ h. kind-below m 0 (m.type_ref p) (to_entity m p (of_property_lem m rule10 kept10 p l) (and_cases (m.navigation p) (m.contains p) h).0))
        (or_cases (complex_step m p) (contain_step m p) e)

    leads_below : (t u : ℕ) → Requires m t u → u < m.types
    leads_below t u r = rw (← r.leads_to) (integral-type r.property r.in_table r.complex-or_contained)

    reached_below : {a b : ℕ} → Reaches m a b → b < m.types
    reached_below {a} (one {b} r) = leads_below a b r
    reached_below (more {b} {c} s r) = leads_below c b r

    reached_found : {a b : ℕ} → a < m.types → Reaches m a b → Reach (λ x y. required_step m x y) m.types a b
    reached_found {a} l (one {b} r) = in_one (required_found (closed m kept4) a b l r)
    reached_found l (more {b} {c} s r) = in_more (reached_below s) (reached_found l s) (required_found (closed m kept4) c b (reached_below s) r)

    pub reaches_decides : (a b : ℕ) → a < m.types → b < m.types → (reaches (λ x y. required_step m x y) m.types a b ≡ true) ↔ Reaches m a b
    reaches_decides a b l h = (
      λ e. reached_sound (reaches_sound (λ x y. required_step m x y) m.types a b e),
      λ r. reaches_found (λ x y. required_step m x y) m.types a b h (reached_found l r),
    )

    -- Rule 12: a type reaches itself.
    pub rule12_decides : (t : ℕ) → t < m.types → (type12 m t ≡ true) ↔ Reaches m t t
    unfolding type12
    rule12_decides t l = reaches_decides t t l l

-- Rule 26, where rule 21 is kept: every item stands in one slot, every slot in one node.

module _ (m : Model) (i : Instance) (kept : Fulfilled m i rule21) where
  pub slot-once : (s : ℕ) → s < i.slots → nodes_with i s ≡ 1
  unfolding rule21 slot21b
  slot-once s l =
      let a = not (eqb (i.slot_spare s) 0) in
      let b = not (ltb (i.slot_property s) m.properties) in
      let e = or_no (a || b || eqb (i.state s) 3 || count_unlike i s || run4cd i.items (i.slot_items s)) (not (eqb (nodes_with i s) 1))
      (of_slot m i rule21 kept s l) in
      eqb-true (nodes_with i s) 1 (not-false (eqb (nodes_with i s) 1) e.1)

  pub item-once : (k : ℕ) → k < i.items → slots_with i k ≡ 1
  unfolding rule21 item21c
  item-once k l = eqb-true (slots_with i k) 1 (not-false (eqb (slots_with i k) 1) (of_item m i rule21 kept k l))

  pub slot_of : (s k : ℕ) → s < i.slots → k < i.items → in_run (i.slot_items s) k ≡ true → slot_of_item i k ≡ suc s
  unfolding slot_of_item slots_with
  slot_of s k l h e =
      let test : ℕ → Bool = λ x. in_run (i.slot_items x) k in
      let f = first_of test 0 i.slots s zero-le (omega arith) e in
      let g = first_found test 0 i.slots f.0 f.1 in
      f.1 ∙ ap suc (at_most_one test i.slots f.0 s (omega (arith, item-once k h)) (omega arith) l g.2 e)

  pub node_of : (v s : ℕ) → v < i.nodes → s < i.slots → in_run (i.node_slots v) s ≡ true → node_of_slot i s ≡ suc v
  unfolding node_of_slot nodes_with
  node_of v s l h e =
      let test : ℕ → Bool = λ x. in_run (i.node_slots x) s in
      let f = first_of test 0 i.nodes v zero-le (omega arith) e in
      let g = first_found test 0 i.nodes f.0 f.1 in
      f.1 ∙ ap suc (at_most_one test i.nodes f.0 v (omega (arith, slot-once s h)) (omega arith) l g.2 e)

  -- The slot of an item and the node of a slot are there.
  pub item-slot : (k : ℕ) → k < i.items → (s : ℕ) × (s < i.slots) × (in_run (i.slot_items s) k ≡ true)
  unfolding slots_with
  item-slot k l = let w = some_found (λ s. in_run (i.slot_items s) k) 0 i.slots (omega (arith, item-once k l)) in (w.0, omega arith, w.3)

  pub slot-node : (s : ℕ) → s < i.slots → (v : ℕ) × (v < i.nodes) × (in_run (i.node_slots v) s ≡ true)
  unfolding nodes_with
  slot-node s l = let w = some_found (λ v. in_run (i.node_slots v) s) 0 i.nodes (omega (arith, slot-once s l)) in (w.0, omega arith, w.3)

  -- An item that holds a node stands in a node that holds it.
  item-holds : (w k : ℕ) → k < i.items → holds_item m i w k ≡ true → (v : ℕ) × (h : Holds m i v w) × (h.item ≡ k) × (node_of_item i k ≡ suc v)
  unfolding holds_item
  item-holds w k l e =
      let (s, ls, es) = item-slot k l in
      let (v, lv, ev) = slot-node s ls in
      let o = slot_of s k ls l es in
      let c = and_cases (eqb (i.item_handle k) w && not (is_null i k)) (integral_item m i k) e in
      let d = and_cases (eqb (i.item_handle k) w) (not (is_null i k)) c.0 in (
        v,
        record {
          slot = s;
          item = k;
          node-there = lv;
          slot-there = ls;
          item-there = l;
          of_node = ev;
          of_slot = es;
          is-integral = rw o at c.1;
          not_null = not-true (is_null i k) d.1;
          number = eqb-true (i.item_handle k) w d.0;
        },
        refl,
        rw o (node_of v s lv ls ev),
      )

  module _ (v w : ℕ) (h : Holds m i v w) where
    slot_is : slot_of_item i h.item ≡ suc h.slot
    slot_is = slot_of h.slot h.item h.slot-there h.item-there h.of_slot

    pub holds-item : holds_item m i w h.item ≡ true
    unfolding holds_item
    holds-item =
        let k = h.item in
        let a = eq-eqb (i.item_handle k) w h.number in
        let b : not (is_null i k) ≡ true = rw h.not_null in
        let c : integral_item m i k ≡ true = rw slot_is h.is-integral in
        and_both (eqb (i.item_handle k) w && not (is_null i k)) (integral_item m i k) (and_both (eqb (i.item_handle k) w) (not (is_null i k)) a b) c

    pub item-node : node_of_item i h.item ≡ suc v
    item-node = rw slot_is (node_of v h.slot h.node-there h.slot-there h.of_node)

  pub holds_sound : (v w : ℕ) → holds_node m i v w ≡ true → Holds m i v w
  unfolding holds_node
  holds_sound v w e =
      let f = any_found (λ k. holds_item m i w k && eqb (node_of_item i k) (suc v)) 0 i.items e in
      let c = and_cases (holds_item m i w f.0) (eqb (node_of_item i f.0) (suc v)) f.3 in
      let g = item-holds w f.0 (omega arith) c.0 in
      let q = eqb-true (node_of_item i f.0) (suc v) c.1 in
      let z : v ≡ g.0 = omega (arith, g.3) in
      rw z g.1

  pub holds_found : (v w : ℕ) → Holds m i v w → holds_node m i v w ≡ true
  unfolding holds_node
  holds_found v w h =
      any_of (λ k. holds_item m i w k && eqb (node_of_item i k) (suc v)) 0 i.items h.item zero-le (omega (arith, h.item-there))
      (rw (holds-item v w h) (eq-eqb (node_of_item i h.item) (suc v) (item-node v w h)))

  within_sound : {a w : ℕ} → Reach (λ x y. holds_node m i x y) i.nodes a w → Within m i a w
  within_sound {a} (in_one {b} e) = directly (holds_sound a b e)
  within_sound (in_more {b} {c} l r e) = deeper (within_sound r) (holds_sound c b e)

  within_found : {a w : ℕ} → Within m i a w → Reach (λ x y. holds_node m i x y) i.nodes a w
  within_found {a} (directly {w} h) = in_one (holds_found a w h)
  within_found (deeper {v} {w} r h) = in_more h.node-there (within_found r) (holds_found v w h)

  pub within_decides : (a w : ℕ) → w < i.nodes → (reaches (λ x y. holds_node m i x y) i.nodes a w ≡ true) ↔ Within m i a w
  within_decides a w l = (
    λ e. within_sound (reaches_sound (λ x y. holds_node m i x y) i.nodes a w e),
    λ r. reaches_found (λ x y. holds_node m i x y) i.nodes a w l (within_found r),
  )

  -- Rule 26: two integral items hold the node; the node is within itself.
  pub rule26a_decides : (w : ℕ) → (node26a m i w ≡ true) ↔ HeldTwice m i w
  rule26a_decides w = (two, twice)
    where
      two : node26a m i w ≡ true → HeldTwice m i w
      two e =
          let f = two_of (λ k. holds_item m i w k) 0 i.items (ltb-true 1 (count_from (λ k. holds_item m i w k) 0 i.items) e) in
          let g = item-holds w f.0 (omega arith) f.5 in
          let h = item-holds w f.1 (omega arith) f.6 in
          record { node = g.0; other-node = h.0; holds = g.1; other-holds = h.1; other_item = λ q. omega (arith, g.2, h.2) }

      twice : HeldTwice m i w → node26a m i w ≡ true
      twice t =
          let g = t.holds in
          let h = t.other-holds in
          lt-ltb 1 (count_from (λ k. holds_item m i w k) 0 i.items)
          (two_found (λ k. holds_item m i w k) 0 i.items g.item h.item zero-le (omega (arith, g.item-there)) zero-le
          (omega (arith, h.item-there)) t.other_item (holds-item t.node w g) (holds-item t.other-node w h))

  pub rule26b_decides : (w : ℕ) → w < i.nodes → (node26b m i w ≡ true) ↔ Within m i w w
  rule26b_decides w l = within_decides w w l
