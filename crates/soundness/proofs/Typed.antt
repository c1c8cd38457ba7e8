-- The walk never stops short, and its results lie at the declared type.
use Prim.Native.Nat.{ℕ, suc, ◌≤◌, ◌<◌}
use mathlib.Core.Path.{◌≡◌, refl, sym, ap, ◌∙◌}
use mathlib.Core.List.{List, [], ◌∷◌}
use mathlib.Core.Bool.{Bool, true, false, cond, not, ◌&&◌}
use mathlib.Core.Logic.{inl, inr}
use native.Mathlib.Omega.{arith}
use lib.Dec.{eqb, ltb, eqb-suc-zero}
use borrow.Author.Tests.{eqb-true, eq-eqb, ltb-true, not-false}
use Rattle.packed.specs.Bytes.{same}
use Rattle.packed.proofs.Laws.{same_sound, same_refl}
use Rattle.csdl.specs.Search.{one_if, tab, all}
use Rattle.csdl.specs.Model.{Model, text, in_run}
use Rattle.csdl.specs.Find.{ancestor_or_self, structured, find, is_name_of}
use Rattle.csdl.specs.Path.{Segment}
use Rattle.csdl.specs.Path.Segment.{name, cast}
use Rattle.csdl.specs.Instance.{Instance}
use Rattle.csdl.specs.Conforms.{slots_of, is_null, carries_node, item25of}
use Rattle.csdl.specs.Walk.{Item, Origin, slot_named, item_at, contents, opening, after, passes, next_stage, walked, reaches_end}
use Rattle.csdl.specs.Walk.Item.{null, value}
use Rattle.csdl.specs.Walk.Origin.{at_slot, at-cast}
use Rattle.csdl.specs.Accepted.{NullIn}
use Rattle.csdl.proofs.Logic.{and_cases, and_both, true-false, in_run_lem, run_in, first_found, first_of, term_le, some_found}
use Rattle.soundness.specs.Lists.{All}
use Rattle.soundness.specs.Lists.All.{none, both}
use Rattle.soundness.specs.Demand.{NodeOf}
use Rattle.soundness.proofs.Facts.{ModelFacts, InstanceFacts}
use Rattle.soundness.proofs.Lists.{all_map, all-flat, all_true, all-tab}
use Rattle.soundness.proofs.Find.{At, at_trans, at_sound, find_sound, Refines, refined, structured-at, structured_up}
use Rattle.soundness.proofs.Find.At.{here}
use Rattle.soundness.proofs.Ways.{Way}
use Rattle.soundness.proofs.Ways.Way.{end, by_name, by_cast}

-- A null is right where it came in: at a slot of a nullable property that is null or holds a null, or at a cast that a node is not at.
unfoldable pub Right : Model → Instance → Origin → Type 0
Right m i (at_slot s) = (s < i.slots) × (m.nullable (i.slot_property s) ≡ true) × NullIn i s
Right m i (at-cast c v) = (v < i.nodes) × (ancestor_or_self m c (i.node_type v) ≡ false)

-- An item fits type reference u.
unfoldable pub Fits : Model → Instance → ℕ → Item → Type 0
Fits m i u (null o) = Right m i o
Fits m i u (value r v) = At m u r × (structured m r ≡ true → NodeOf i r v)

pub fits_up : (m : Model) (i : Instance) (u t : ℕ) → At m u t → (x : Item) → Fits m i t x → Fits m i u x
unfolding Fits
fits_up m i u t a (null o) f = f
fits_up m i u t a (value r v) f = (at_trans m a f.0, f.1)

one_if_one : (b : Bool) → 1 ≤ one_if b → b ≡ true
one_if_one true h = refl
one_if_one false h = absurd (omega arith)

module _ (m : Model) (i : Instance) (k : ModelFacts m) (j : InstanceFacts m i) where
  -- A slot's property is what its name means at the node's type.
  means : (v s : ℕ) → v < i.nodes → in_run (i.node_slots v) s ≡ true →
      find m (text m (m.property_name (i.slot_property s))) (i.node_type v) ≡ suc (i.slot_property s)
  unfolding slots_of is_name_of
  means v s l e =
      let p = i.slot_property s in
      let r = run_in (i.node_slots v) s e in
      let n = j.slots-named v p l (j.property-small s (j.slots_fit v s l e)) in
      let o : one_if (eqb (i.slot_property s) p) ≡ 1 = rw (eq-eqb p p refl) in
      let a : one_if (eqb (i.slot_property s) p) ≤ slots_of i v p = term_le (λ z. one_if (eqb (i.slot_property z) p)) s (i.node_slots v).first
      (i.node_slots v).count r.0 r.1 in
      eqb-true (find m (text m (m.property_name p)) (i.node_type v)) (suc p) (one_if_one (is_name_of m (i.node_type v) p) (omega arith))

  -- The slot of a name that the node's type has.
  slot-there : (nm : List ℕ) (v q : ℕ) → v < i.nodes → find m nm (i.node_type v) ≡ suc q →
      (s : ℕ) × (slot_named m i nm v ≡ suc s) × (in_run (i.node_slots v) s ≡ true) × (i.slot_property s ≡ q)
  unfolding slot_named slots_of is_name_of
  slot-there nm v q l e =
      let f = find_sound m nm (i.node_type v) q e in
      let e' : find m (text m (m.property_name q)) (i.node_type v) ≡ suc q = rw f.2 e in
      let n : slots_of i v q ≡ 1 = j.slots-named v q l f.0 ∙ rw (eq-eqb (find m (text m (m.property_name q)) (i.node_type v)) (suc q) e') in
      let first = (i.node_slots v).first in
      let count = (i.node_slots v).count in
      let a = some_found (λ z. eqb (i.slot_property z) q) first count (omega arith) in
      let b = first_of (λ z. same (text m (m.property_name (i.slot_property z))) nm) first count a.0 a.1 a.2
      (rw (eqb-true (i.slot_property a.0) q a.3, f.2) (same_refl nm)) in
      let s = b.0 in
      let c = first_found (λ z. same (text m (m.property_name (i.slot_property z))) nm) first count s b.1 in
      let d = in_run_lem (i.node_slots v) s c.0 c.1 in
      let g : text m (m.property_name (i.slot_property s)) ≡ nm = same_sound (text m (m.property_name (i.slot_property s))) nm c.2 in
      let h : find m nm (i.node_type v) ≡ suc (i.slot_property s) = rw g at (means v s l d) in
      (s, b.1, d, omega arith)

  -- A name that the declared type has opens a slot whose property takes the place of the resolved one.
  pub record Opens (nm : List ℕ) (p v : ℕ) : Type 0 where
    pub slot : ℕ
    pub slot_is : slot_named m i nm v ≡ suc slot
    pub slot_in : in_run (i.node_slots v) slot ≡ true
    pub slot_small : slot < i.slots
    pub refines : Refines m p (i.slot_property slot)

  pub opens : (nm : List ℕ) (t p v : ℕ) → v < i.nodes → At m t (i.node_type v) → find m nm t ≡ suc p → Opens nm p v
  opens nm t p v l a e =
      let w = refined m k nm p a (j.type-small v l) e in
      let s = slot-there nm v w.0 l w.1 in
      record { slot = s.0; slot_is = s.1; slot_in = s.2; slot_small = j.slots_fit v s.0 l s.2; refines = rw s.3 w.2 }

  -- What stands in a slot fits its property's type.
  pub item_typed : (s n : ℕ) → s < i.slots → in_run (i.slot_items s) n ≡ true → Fits m i (m.type_ref (i.slot_property s)) (item_at i s n)
  unfolding Fits Right NullIn item_at item25of carries_node
  item_typed s n l e = go (is_null i n) refl (j.item-fits s n l e)
    where
      p : ℕ
      p = i.slot_property s

      r : ℕ
      r = i.item_ref n

      w : ℕ
      w = i.item_handle n

      sort : (b : Bool) → structured m (m.type_ref p) ≡ b → cond b (not (carries_node m i (m.type_ref p) n)) (not (eqb r (m.type_ref p))) ≡ false →
          At m (m.type_ref p) r × (structured m r ≡ true → NodeOf i r w)
      sort true f h =
          let a = not-false (carries_node m i (m.type_ref p) n) h in
          let c = and_cases (ltb w i.nodes && eqb r (i.node_type w)) (ancestor_or_self m (m.type_ref p) r) a in
          let d = and_cases (ltb w i.nodes) (eqb r (i.node_type w)) c.0 in
          (at_sound m (m.type_ref p) r c.1, λ g. (ltb-true w i.nodes d.0, sym (eqb-true r (i.node_type w) d.1)))
      sort false f h = let q : r ≡ m.type_ref p = eqb-true r (m.type_ref p) (not-false (eqb r (m.type_ref p)) h) in
          (rw q here, λ g. true-false (structured m r) g (rw q f))

      go : (b : Bool) → is_null i n ≡ b →
          cond b (not (m.collection p && m.nullable p))
          (cond (structured m (m.type_ref p)) (not (carries_node m i (m.type_ref p) n)) (not (eqb r (m.type_ref p)))) ≡ false →
          Fits m i (m.type_ref p) (cond b (null (at_slot s)) (value r w))
      go true f h = (l, (and_cases (m.collection p) (m.nullable p) (not-false (m.collection p && m.nullable p) h)).1, inr (n, e, f))
      go false f h = sort (structured m (m.type_ref p)) refl h

  pub contents_typed : (s : ℕ) → s < i.slots → All (Fits m i (m.type_ref (i.slot_property s))) (contents i s)
  unfolding Fits Right NullIn contents
  contents_typed s l = go (eqb (i.state s) 0) refl
    where
      p : ℕ
      p = i.slot_property s

      go : (b : Bool) → eqb (i.state s) 0 ≡ b →
          All (Fits m i (m.type_ref p)) (cond b (null (at_slot s) ∷ []) (tab (λ n. item_at i s n) (i.slot_items s).first (i.slot_items s).count))
      go true e = both {x = null (at_slot s)} (l, j.null-fits s l (eqb-true (i.state s) 0 e), inl (eqb-true (i.state s) 0 e)) none
      go false e = all-tab (Fits m i (m.type_ref p)) (λ n. item_at i s n) (i.slot_items s).first (i.slot_items s).count
          (λ n a b. item_typed s n l (in_run_lem (i.slot_items s) n a b))

  -- One segment.
  name_typed : (nm : List ℕ) (t p : ℕ) → structured m t ≡ true → find m nm t ≡ suc p → (x : Item) → Fits m i t x →
      (passes m i (name nm) x ≡ true) × All (Fits m i (m.type_ref p)) (after m i (name nm) x)
  unfolding Fits passes after opening
  name_typed nm t p st e (null o) f = (refl, both f none)
  name_typed nm t p st e (value r v) f =
      let sr = structured-at m k t r f.0 st in
      let n = f.1 sr in
      let o = opens nm t p v n.0 (rw n.1 f.0) e in
      rw (sr, o.slot_is) (
        ap not (eqb-suc-zero o.slot),
        all_map
            (λ y. fits_up m i (m.type_ref p) (m.type_ref (i.slot_property o.slot)) o.refines.type_at y) (contents_typed o.slot o.slot_small),
      )

  cast_typed : (c t : ℕ) → structured m c ≡ true → ancestor_or_self m t c ≡ true → (x : Item) → Fits m i t x →
      (passes m i (cast c) x ≡ true) × All (Fits m i c) (after m i (cast c) x)
  unfolding Fits Right passes after
  cast_typed c t sc a (null o) f = (refl, both f none)
  cast_typed c t sc a (value r v) f =
      let sr = structured-at m k t r f.0 (structured_up m k t c (at_sound m t c a) sc) in rw sr (refl, both (go sr (ancestor_or_self m c r) refl) none)
    where
      go : structured m r ≡ true → (b : Bool) → ancestor_or_self m c r ≡ b → Fits m i c (cond b (value r v) (null (at-cast c v)))
      go sr true e = (at_sound m c r e, f.1)
      go sr false e = let n = f.1 sr in (n.0, rw n.1 e)

  -- One segment at every item of a stage; the whole walk.
  stage_typed : (g : Segment) (t u : ℕ) → ((x : Item) → Fits m i t x → (passes m i g x ≡ true) × All (Fits m i u) (after m i g x)) →
      (xs : List Item) → All (Fits m i t) xs → (all (λ x. passes m i g x) xs ≡ true) × All (Fits m i u) (next_stage m i g xs)
  stage_typed g t u one xs f = (all_true (λ x. passes m i g x) (all_map (λ x h. (one x h).0) f), all-flat (λ x. after m i g x) (all_map (λ x h. (one x h).1) f))

  pub typed : {ok : Bool → ℕ → Bool} {t u : ℕ} {gs : List Segment} → Way m ok t gs u → (xs : List Item) → All (Fits m i t) xs →
      (reaches_end m i gs xs ≡ true) × All (Fits m i u) (walked m i gs xs)
  unfolding reaches_end walked
  typed end xs f = (refl, f)
  typed {ok} {t} (by_name {p} {nm} {gs} st e o w) xs f =
      let a = stage_typed (name nm) t (m.type_ref p) (name_typed nm t p st e) xs f in
      let h = typed w (next_stage m i (name nm) xs) a.1 in
      (and_both (all (λ x. passes m i (name nm) x) xs) (reaches_end m i gs (next_stage m i (name nm) xs)) a.0 h.0, h.1)
  typed {ok} {t} (by_cast {c} {gs} sc e w) xs f =
      let a = stage_typed (cast c) t c (cast_typed c t sc e) xs f in
      let h = typed w (next_stage m i (cast c) xs) a.1 in
      (and_both (all (λ x. passes m i (cast c) x) xs) (reaches_end m i gs (next_stage m i (cast c) xs)) a.0 h.0, h.1)
