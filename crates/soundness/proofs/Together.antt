-- Demand 3 of a walk along a way, put together.
use Prim.Native.Nat.{ℕ, suc, ◌<◌}
use mathlib.Core.Path.{◌≡◌, refl, subst}
use mathlib.Core.List.{List, ◌∷◌, ◌++◌, Memᴰ}
use mathlib.Core.Bool.{Bool, true, false, cond}
use native.Mathlib.Omega.{arith}
use Rattle.csdl.specs.Model.{Model}
use Rattle.csdl.specs.Find.{structured, ancestor_or_self, integral}
use Rattle.csdl.specs.Path.{Segment}
use Rattle.csdl.specs.Path.Segment.{name, cast}
use Rattle.csdl.specs.Instance.{Instance}
use Rattle.csdl.specs.Walk.{Item, slot_named, opening, walked, opened, start}
use Rattle.csdl.specs.Walk.Item.{null, value}
use Rattle.csdl.specs.Walk.Origin.{at_slot, at-cast}
use Rattle.soundness.specs.Lists.{All}
use Rattle.soundness.specs.Lists.All.{none, both}
use Rattle.soundness.specs.Demand.{NodeOf, LiesAt, HasOrigin, NullHasOrigin, Demand, One}
use Rattle.soundness.proofs.Facts.{ModelFacts, InstanceFacts}
use Rattle.soundness.proofs.Lists.{all_map, all_two, all-member, sum_ones, sum_length, sum_bound, alike_distinct, alike-length}
use Rattle.soundness.proofs.Find.{at_sound, at-is}
use Rattle.soundness.proofs.Ways.{Way, way_before, inner, no_cast}
use Rattle.soundness.proofs.Typed.{Right, Fits, typed}
use Rattle.soundness.proofs.KeyPath.{single}
use Rattle.soundness.proofs.Origins.{InWalk, CameIn, came_in}
use Rattle.soundness.proofs.Levels.{below, of_one}
use Rattle.soundness.proofs.Once.{once}
use Rattle.soundness.proofs.Counts.{weight, walked-length, all_weight}

module _ (m : Model) (i : Instance) (k : ModelFacts m) (j : InstanceFacts m i) where
  fits_lies : (u : ℕ) (x : Item) → Fits m i u x → LiesAt m i u x
  unfolding Fits LiesAt
  fits_lies u (null o) f = tt
  fits_lies u (value r v) f = (at-is m k u r f.0, f.1)

  -- A node among the items before a segment of the way is a node of its type, since those items fit.
  met-node : {ok : Bool → ℕ → Bool} {t u : ℕ} {gs : List Segment} → Way m ok t gs u → (v : ℕ) → Fits m i t (value (i.node_type v) v) →
      (before later : List Segment) → gs ≡ before ++ later → (r w : ℕ) → Memᴰ (value r w) (walked m i before (start i v)) →
      structured m r ≡ true → NodeOf i r w
  unfolding Fits
  met-node {ok} {t} {u} way v f before later e r w d s =
      let z = way_before before later (subst (λ (l : List Segment). Way m ok t l u) e way) in
      (all-member (typed m i k j z.1 (start i v) (both f none)).1 d).1 s

  slot-named : (nm : List ℕ) (r w s : ℕ) → opening m i (name nm) (value r w) ≡ suc s → (structured m r ≡ true) × (slot_named m i nm w ≡ suc s)
  unfolding opening
  slot-named nm r w s = go (structured m r)
    where
      go : (b : Bool) → cond b (slot_named m i nm w) 0 ≡ suc s → (b ≡ true) × (slot_named m i nm w ≡ suc s)
      go true e = (refl, e)
      go false e = absurd (omega arith)

  fits_origin : {ok : Bool → ℕ → Bool} {t u : ℕ} {gs : List Segment} → Way m ok t gs u → (v : ℕ) → Fits m i t (value (i.node_type v) v) →
      (x : Item) → Fits m i u x → CameIn m i gs (start i v) (opened m i gs (start i v)) x → NullHasOrigin m i gs v x
  unfolding Fits Right CameIn InWalk NullHasOrigin HasOrigin
  fits_origin way v s (null (at_slot z)) f h =
      let o = slot-named h.named h.type h.node z h.opens in
      let n = met-node way v s h.before (name h.named ∷ h.later) h.path-is h.type h.node h.met o.0 in
      record {
        before = h.before;
        named = h.named;
        later = h.later;
        path-is = h.path-is;
        node = h.node;
        met = rw n.1 h.met;
        opens = o.1;
        was_opened = h.listed;
        in_table = f.0;
        may_be_null = f.1;
        null_in = f.2;
      }
  fits_origin way v s (null (at-cast c w)) f h =
      let n = met-node way v s h.before (cast c ∷ h.later) h.path-is h.type w h.met h.is-structured in
      record {
        before = h.before;
        later = h.later;
        path-is = h.path-is;
        met = rw n.1 h.met;
        in_table = n.0;
        not_at = rw n.1 h.not_at;
      }
  fits_origin way v s (value r w) f h = tt

  start_fits : (t v : ℕ) → v < i.nodes → ancestor_or_self m t (i.node_type v) ≡ true → Fits m i t (value (i.node_type v) v)
  unfolding Fits
  start_fits t v l a = (at_sound m t (i.node_type v) a, λ g. (l, refl))

  pub demand : {t u : ℕ} {gs : List Segment} → Way m (inner (integral m)) t gs u → (v : ℕ) → v < i.nodes → ancestor_or_self m t (i.node_type v) ≡ true → Demand m i gs u v
  demand {t} {u} {gs} w v l a =
      let x = value (i.node_type v) v in
      let f = start_fits t v l a in
      let h = typed m i k j w (start i v) (both f none) in
      let o = once m i k j w (i.node_type v) v f in
      let s : All (λ z. z < i.slots) (below m i gs x) = all_map (λ z y. j.slots_fit y.node z y.node-small y.in_node) o.1 in
      let b = sum_bound (λ z. 1) i.slots s o.0 in
      let c = sum_bound (weight i) i.slots s o.0 in
      let alike = of_one m i gs x in
      record {
        to_its_end = h.0;
        each_result = all_map (fits_lies u) h.1;
        each-null = all_two (fits_origin w v f) h.1 (came_in m i gs (i.node_type v) v);
        none_twice = alike_distinct (below m i gs x) (opened m i gs (start i v)) alike o.0;
        at_most = omega (arith, b, sum_length (below m i gs x), sum_ones 0 i.slots, alike-length (below m i gs x) (opened m i gs (start i v)) alike);
        results_fit = omega (arith, c, walked-length m i gs (start i v), alike (weight i), all_weight m i j);
      }

  pub one : {ok : Bool → ℕ → Bool} → ((b : Bool) (p : ℕ) → ok b p ≡ true → (m.collection p ≡ false) × (m.nullable p ≡ false)) →
      {t u : ℕ} {gs : List Segment} → Way m ok t gs u → no_cast gs ≡ true → (v : ℕ) → v < i.nodes → ancestor_or_self m t (i.node_type v) ≡ true → One m i gs v
  one req {t} w nc v l a =
      let s = single m i k j req w nc (i.node_type v) v (start_fits t v l a) in
      record { type = s.0; handle = s.1; only = s.2; opened-all = s.3 }
