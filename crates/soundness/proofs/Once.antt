-- In one walk no slot is opened twice.
use Prim.Native.Nat.{ℕ, zero, suc, ◌+◌, ◌≤◌, ◌<◌}
use mathlib.Core.Path.{◌≡◌, refl, sym, ap, ◌∙◌, subst}
use mathlib.Core.List.{List, [], ◌∷◌, ◌++◌}
use mathlib.Core.Bool.{Bool, true, false, cond, not, ◌||◌}
use mathlib.Core.Logic.{⊎_elim}
use native.Mathlib.Omega.{arith}
use lib.Dec.{eqb, ltb}
use borrow.Author.Tests.{ltb-true, lt-ltb}
use Rattle.csdl.specs.Search.{tab, flat}
use Rattle.csdl.specs.Model.{Model, in_run}
use Rattle.csdl.specs.Find.{ancestor_or_self, of_kind, complex, complex_step, contain_step, integral}
use Rattle.csdl.specs.Path.{Segment}
use Rattle.csdl.specs.Instance.{Instance}
use Rattle.csdl.specs.Conforms.{is_null, nodes_with, slots_with}
use Rattle.csdl.specs.Walk.{item_at, contents, opening, after}
use Rattle.csdl.specs.Walk.Item.{null, value}
use Rattle.csdl.specs.Walk.Origin.{at_slot, at-cast}
use Rattle.csdl.specs.Relations.{Holds}
use Rattle.csdl.proofs.Logic.{and_cases, and_both, or_cases, or_left, or_right, in_run_lem, run_in, at_most_one}
use Rattle.soundness.specs.Lists.{All, Distinct}
use Rattle.soundness.specs.Lists.All.{none, both}
use Rattle.soundness.proofs.Facts.{ModelFacts, InstanceFacts, Deep}
use Rattle.soundness.proofs.Lists.{all_map, all_append, flat-one, flat-none, distinct_append}
use Rattle.soundness.proofs.Find.{At, at_sound, at-below, at-kind, Refines, structured-at, structured_up}
use Rattle.soundness.proofs.Ways.{Way, has_name, inner}
use Rattle.soundness.proofs.Ways.Way.{end, by_name, by_cast}
use Rattle.soundness.proofs.Typed.{Fits, fits_up, Opens, opens, item_typed}
use Rattle.soundness.proofs.Levels.{below, below-null, below_none}

module _ (m : Model) (i : Instance) (k : ModelFacts m) (j : InstanceFacts m i) where
  -- A slot is of one node, an item of one slot, so a node has one holder.
  same-node : (v w s : ℕ) → v < i.nodes → w < i.nodes → in_run (i.node_slots v) s ≡ true → in_run (i.node_slots w) s ≡ true → v ≡ w
  unfolding nodes_with
  same-node v w s l h e f = at_most_one (λ u. in_run (i.node_slots u) s) i.nodes v w (omega (arith, j.slot-once s (j.slots_fit v s l e))) l h e f

  same-slot : (s z n : ℕ) → n < i.items → s < i.slots → z < i.slots → in_run (i.slot_items s) n ≡ true → in_run (i.slot_items z) n ≡ true → s ≡ z
  unfolding slots_with
  same-slot s z n b l h e f = at_most_one (λ u. in_run (i.slot_items u) n) i.slots s z (omega (arith, j.item-once n b)) l h e f

  one_with : (v x w : ℕ) → Holds m i v w → Holds m i x w → v ≡ x
  one_with v x w h g =
      let e : h.item ≡ g.item = j.held_once v x w h g in
      let s : h.slot ≡ g.slot = same-slot h.slot g.slot h.item h.item-there h.slot-there g.slot-there h.of_slot (rw e g.of_slot) in
      same-node v x h.slot h.node-there g.node-there h.of_node (rw s g.of_node)

  prepend : (a w d u : ℕ) → Holds m i a w → Deep m i w d u → Deep m i a (suc d) u
  unfolding Deep
  prepend a w zero u h e = (a, rw e h, refl)
  prepend a w (suc d) u h r = (r.0, r.1, prepend a w d r.0 h r.2)

  -- As many steps up lead to the same node; to one node, as many steps.
  top-same : (a b d u : ℕ) → Deep m i a d u → Deep m i b d u → a ≡ b
  unfolding Deep
  top-same a b zero u e f = sym e ∙ f
  top-same a b (suc d) u r s = top-same a b d r.0 r.2 (rw (one_with r.0 s.0 u r.1 s.1) s.2)

  depth_same : (a d e u : ℕ) → Deep m i a d u → Deep m i a e u → d ≡ e
  unfolding Deep
  depth_same a zero zero u r s = refl
  depth_same a zero (suc e) u r s = absurd (j.not_within e a (subst (λ (z : ℕ). Deep m i a (suc e) z) r s))
  depth_same a (suc d) zero u r s = absurd (j.not_within d a (subst (λ (z : ℕ). Deep m i a (suc d) z) s r))
  depth_same a (suc d) (suc e) u r s = ap suc (depth_same a d e r.0 r.2 (rw (one_with r.0 s.0 u r.1 s.1) s.2))

  -- What takes the place of an integral property is integral.
  integral_refined : (p q : ℕ) → Refines m p q → integral m p ≡ true → integral m q ≡ true
  unfolding integral complex_step contain_step of_kind
  integral_refined p q f e = ⊎_elim of_complex of_contained (or_cases (complex_step m p) (contain_step m p) e)
    where
      of_complex : complex_step m p ≡ true → (complex_step m q || contain_step m q) ≡ true
      of_complex h =
          let a = and_cases (not (m.navigation p)) (complex m (m.type_ref p)) h in
          let b = and_cases (ltb (m.type_ref p) m.types) (eqb (m.kind (m.type_ref p)) 1) a.1 in
          let c : complex m (m.type_ref q) ≡ true = rw
          (lt-ltb (m.type_ref q) m.types (at-below m k (ltb-true (m.type_ref p) m.types b.0) f.type_at), at-kind m k f.type_at) b.1 in
          or_left (complex_step m q) (contain_step m q) (and_both (not (m.navigation q)) (complex m (m.type_ref q)) (rw f.navigation-same a.0) c)

      of_contained : contain_step m p ≡ true → (complex_step m q || contain_step m q) ≡ true
      of_contained h =
          let a = and_cases (m.navigation p) (m.contains p) h in
          or_right (complex_step m q) (contain_step m q)
          (and_both (m.navigation q) (m.contains q) (rw f.navigation-same a.0) (rw f.contains-same a.1))

  -- Slot z is of v, or of a node within v.
  pub record Under (v z : ℕ) : Type 0 where
    pub depth : ℕ
    pub node : ℕ
    pub node-small : node < i.nodes
    pub in_node : in_run (i.node_slots node) z ≡ true
    pub within : Deep m i v depth node

  -- Slot z is of a node that an item of slot s from n on holds, or of one within it.
  record Beyond (s n z : ℕ) : Type 0 where
    item : ℕ
    from : n ≤ item
    in_slot : in_run (i.slot_items s) item ≡ true
    not_null : is_null i item ≡ false
    under : Under (i.item_handle item) z

  module _ (v s : ℕ) (vl : v < i.nodes) (sl : s < i.slots) (vs : in_run (i.node_slots v) s ≡ true) (it : integral m (i.slot_property s) ≡ true) where
    item-small : (n : ℕ) → in_run (i.slot_items s) n ≡ true → n < i.items
    item-small n e = let r = run_in (i.slot_items s) n e in omega (arith, j.items_fit s sl)

    holds : (n w : ℕ) → i.item_handle n ≡ w → in_run (i.slot_items s) n ≡ true → is_null i n ≡ false → Holds m i v w
    holds n w e h f =
        record {
          slot = s;
          item = n;
          node-there = vl;
          slot-there = sl;
          item-there = item-small n h;
          of_node = vs;
          of_slot = h;
          is-integral = it;
          not_null = f;
          number = e;
        }

    -- Of two items of the slot, no slot lies within both.
    apart : (n z y : ℕ) → in_run (i.slot_items s) n ≡ true → is_null i n ≡ false → Under (i.item_handle n) z → Beyond s (n + 1) y → z ≡ y → ⊥
    unfolding holds
    apart n z y e f a b q =
        let c = b.under in
        let u : a.node ≡ c.node = same-node a.node c.node z a.node-small c.node-small a.in_node (rw q c.in_node) in
        let wb : Deep m i (i.item_handle b.item) c.depth a.node = rw u c.within in
        let ha = holds n (i.item_handle n) refl e f in
        let hb = holds b.item (i.item_handle b.item) refl b.in_slot b.not_null in
        let d : suc a.depth ≡ suc c.depth =
        depth_same v (suc a.depth) (suc c.depth) a.node (prepend v (i.item_handle n) a.depth a.node ha a.within)
        (prepend v (i.item_handle b.item) c.depth a.node hb wb) in
        let d' : c.depth ≡ a.depth = omega arith in
        let t : i.item_handle b.item ≡ i.item_handle n =
        top-same (i.item_handle b.item) (i.item_handle n) a.depth a.node
        (subst (λ (x : ℕ). Deep m i (i.item_handle b.item) x a.node) d' wb) a.within in
        let g : n ≡ b.item = j.held_once v v (i.item_handle n) ha (holds b.item (i.item_handle n) t b.in_slot b.not_null) in
        omega (arith, b.from)

    -- Nor is the slot itself one of those within.
    not_self : (z : ℕ) (b : Beyond s (i.slot_items s).first z) → s ≡ z → ⊥
    not_self z b q =
        let c = b.under in
        let u : v ≡ c.node = same-node v c.node s vl c.node-small vs (rw q c.in_node) in
        let h = holds b.item (i.item_handle b.item) refl b.in_slot b.not_null in
        let w : Deep m i v (suc c.depth) c.node = prepend v (i.item_handle b.item) c.depth c.node h c.within in
        j.not_within c.depth v (subst (λ (x : ℕ). Deep m i v (suc c.depth) x) (sym u) w)

    under_of : (n z : ℕ) → Beyond s n z → Under v z
    under_of n z b =
        let c = b.under in
        let h = holds b.item (i.item_handle b.item) refl b.in_slot b.not_null in
        record {
          depth = suc c.depth;
          node = c.node;
          node-small = c.node-small;
          in_node = c.in_node;
          within = prepend v (i.item_handle b.item) c.depth c.node h c.within;
        }

    module _ (gs : List Segment) (t : ℕ) (up : At m t (m.type_ref (i.slot_property s)))
        (rest : (r w : ℕ) → Fits m i t (value r w) → Distinct (below m i gs (value r w)) × All (Under w) (below m i gs (value r w))) where
      siblings : (n c : ℕ) → (i.slot_items s).first ≤ n → n + c ≤ (i.slot_items s).first + (i.slot_items s).count →
          Distinct (flat (below m i gs) (tab (λ z. item_at i s z) n c)) × All (Beyond s n) (flat (below m i gs) (tab (λ z. item_at i s z) n c))
      unfolding flat tab item_at Distinct
      siblings n zero a b = (tt, none)
      siblings n (suc c) a b = go (siblings (n + 1) c (omega arith) (omega arith)) (is_null i n) refl
        where
          others : List ℕ
          others = flat (below m i gs) (tab (λ z. item_at i s z) (n + 1) c)

          e : in_run (i.slot_items s) n ≡ true
          e = in_run_lem (i.slot_items s) n a (omega arith)

          later : (z : ℕ) → Beyond s (n + 1) z → Beyond s n z
          later z y = record { item = y.item; from = omega (arith, y.from); in_slot = y.in_slot; not_null = y.not_null; under = y.under }

          first : is_null i n ≡ false → (z : ℕ) → Under (i.item_handle n) z → Beyond s n z
          first f z y = record { item = n; from = omega arith; in_slot = e; not_null = f; under = y }

          go : Distinct others × All (Beyond s (n + 1)) others → (b : Bool) → is_null i n ≡ b →
              Distinct (below m i gs (cond b (null (at_slot s)) (value (i.item_ref n) (i.item_handle n))) ++ others)
              × All (Beyond s n) (below m i gs (cond b (null (at_slot s)) (value (i.item_ref n) (i.item_handle n))) ++ others)
          go w true f = rw (below-null m i gs (at_slot s)) (w.0, all_map later w.1)
          go w false f =
              let x : Fits m i t (value (i.item_ref n) (i.item_handle n)) =
              fits_up m i t (m.type_ref (i.slot_property s)) up (value (i.item_ref n) (i.item_handle n)) (rw f at (item_typed m i k j s n sl e)) in
              let h = rest (i.item_ref n) (i.item_handle n) x in
              (distinct_append (λ z y p q. apart n z y e f p q) h.1 w.1 h.0 w.0, all_append (all_map (first f) h.1) (all_map later w.1))

      within-slot : Distinct (flat (below m i gs) (contents i s)) × All (Beyond s (i.slot_items s).first) (flat (below m i gs) (contents i s))
      unfolding contents Distinct
      within-slot = go (eqb (i.state s) 0)
        where
          go : (b : Bool) → let l = cond b (null (at_slot s) ∷ []) (tab (λ z. item_at i s z) (i.slot_items s).first (i.slot_items s).count) in
              Distinct (flat (below m i gs) l) × All (Beyond s (i.slot_items s).first) (flat (below m i gs) l)
          go true = rw (flat-one (below m i gs) (null (at_slot s)), below-null m i gs (at_slot s)) (tt, none)
          go false = siblings (i.slot_items s).first (i.slot_items s).count (omega arith) (omega arith)

  self : (v s : ℕ) → v < i.nodes → in_run (i.node_slots v) s ≡ true → Under v s
  unfolding Deep
  self v s l e = record { depth = 0; node = v; node-small = l; in_node = e; within = refl }

  -- No slot is opened twice below an item, and all of them are of nodes within it.
  pub once : {t u : ℕ} {gs : List Segment} → Way m (inner (integral m)) t gs u → (r v : ℕ) → Fits m i t (value r v) →
      Distinct (below m i gs (value r v)) × All (Under v) (below m i gs (value r v))
  unfolding below opening after Fits Distinct inner
  once end r v f = (tt, none)
  once {t} (by_name {p} {nm} {gs} st e o w) r v f =
      let sr = structured-at m k t r f.0 st in
      let n = f.1 sr in
      let a = opens m i k j nm t p v n.0 (rw n.1 f.0) e in
      rw (sr, a.slot_is) (go n a (has_name gs) refl o (λ x y. once w x y))
    where
      go : (v < i.nodes) × (i.node_type v ≡ r) → (a : Opens m i k j nm p v) → (b : Bool) → has_name gs ≡ b → inner (integral m) b p ≡ true →
          ((x y : ℕ) → Fits m i (m.type_ref p) (value x y) → Distinct (below m i gs (value x y)) × All (Under y) (below m i gs (value x y))) →
          Distinct (a.slot ∷ flat (below m i gs) (contents i a.slot)) × All (Under v) (a.slot ∷ flat (below m i gs) (contents i a.slot))
      go n a false h q rest =
          rw (flat-none (below m i gs) (below_none m i gs h) (contents i a.slot)) ((none, tt), both (self v a.slot n.0 a.slot_in) none)
      go n a true h q rest =
          let s = a.slot in
          let g = integral_refined p (i.slot_property s) a.refines q in
          let b = within-slot v s n.0 a.slot_small a.slot_in g gs (m.type_ref p) a.refines.type_at rest in (
            (all_map (not_self v s n.0 a.slot_small a.slot_in g) b.1, b.0),
            both (self v s n.0 a.slot_in) (all_map (under_of v s n.0 a.slot_small a.slot_in g (i.slot_items s).first) b.1),
          )
  once {t} (by_cast {c} {gs} sc e w) r v f =
      let sr = structured-at m k t r f.0 (structured_up m k t c (at_sound m t c e) sc) in
      rw (sr, flat-one (below m i gs) (cond (ancestor_or_self m c r) (value r v) (null (at-cast c v)))) (go (ancestor_or_self m c r) refl (once w r v))
    where
      go : (b : Bool) → ancestor_or_self m c r ≡ b → (Fits m i c (value r v) → Distinct (below m i gs (value r v)) × All (Under v) (below m i gs (value r v))) →
          Distinct (below m i gs (cond b (value r v) (null (at-cast c v)))) × All (Under v) (below m i gs (cond b (value r v) (null (at-cast c v))))
      go true q rest = rest (at_sound m c r q, f.1)
      go false q rest = rw (below-null m i gs (at-cast c v)) (tt, none)
