-- One segment at a node, case by case: what takes its place is what the walk's definition puts there. Assumes nothing.
use Prim.Native.Nat.{ℕ, zero, suc, ◌+◌}
use mathlib.Core.Path.{◌≡◌, refl, ap₂}
use mathlib.Core.List.{List, ◌∷◌}
use mathlib.Core.Bool.{Bool, true, false, cond}
use lib.Dec.{eqb}
use Rattle.std.proofs.Common.{None}
use Rattle.csdl.specs.Search.{tab, if_found}
use Rattle.csdl.specs.Model.{Model, text}
use Rattle.csdl.specs.Find.{structured, ancestor_or_self}
use Rattle.csdl.specs.Path.{Segment, segment_at}
use Rattle.csdl.specs.Path.Segment.{name, cast}
use Rattle.csdl.specs.Instance.{Instance}
use Rattle.csdl.specs.Conforms.{is_null}
use Rattle.csdl.specs.Walk.{slot_named, item_at, contents, opening, after}
use Rattle.csdl.specs.Walk.Item.{null, value}
use Rattle.csdl.specs.Walk.Origin.{at_slot}
use Rattle.walk_step.specs.Seen.{null_code, item_of, erase, erased, own_next, no_next, contents_of, kept_next, next_at, item_in, StepIs}
use Rattle.walk_step.specs.declared.Item.{Item as Seen}

erase-item : (i : Instance) (s k : ℕ) → erase (item_at i s k) ≡ item_of (i.item_ref k) (i.item_handle k)
unfolding erase item_at is_null item_of
erase-item i s k = go (null_code (i.item_ref k) (i.item_handle k))
  where
    go : (b : Bool) → erase (cond b (null (at_slot s)) (value (i.item_ref k) (i.item_handle k))) ≡ cond b (null (at_slot 0)) (value (i.item_ref k) (i.item_handle k))
    go true = refl
    go false = refl

erased-items : (i : Instance) (s k n : ℕ) → erased (tab (λ q. item_at i s q) k n) ≡ tab (λ q. item_of (i.item_ref q) (i.item_handle q)) k n
unfolding erased tab
erased-items i s k zero = refl
erased-items i s k (suc n) = ap₂ ◌∷◌ (erase-item i s k) (erased-items i s (k + 1) n)

module _ (m : Model) (i : Instance) (k : ℕ) (x : Seen) where
  abbrev nm : List ℕ
  nm = text m (m.segment_name k)

  is-cast : m.is_cast k ≡ true → segment_at m k ≡ cast (m.cast_type k)
  unfolding segment_at
  is-cast e = rw e

  is_name : m.is_cast k ≡ false → segment_at m k ≡ name nm
  unfolding segment_at
  is_name e = rw e

  -- What is not structured has no slots and no type to be cast to.
  not-node : structured m x.t ≡ false → StepIs m i (segment_at m k) x.t x.v no_next
  unfolding after opening erased tab
  not-node z = go (segment_at m k)
    where
      go : (g : Segment) → StepIs m i g x.t x.v no_next
      go (name nm) = record { next-is = rw z; opening-is = rw z }
      go (cast c) = record { next-is = rw z; opening-is = refl }

  module _ (node : structured m x.t ≡ true) where
    -- A cast keeps the node, or puts null.
    at-cast : null_code x.t x.v ≡ false → m.is_cast k ≡ true → StepIs m i (segment_at m k) x.t x.v (kept_next (ancestor_or_self m (m.cast_type k) x.t) x)
    unfolding after opening erased erase item_of item_in tab
    at-cast some e = rw (is-cast e) (go (ancestor_or_self m (m.cast_type k) x.t) refl)
      where
        go : (b : Bool) → ancestor_or_self m (m.cast_type k) x.t ≡ b → StepIs m i (cast (m.cast_type k)) x.t x.v (kept_next b x)
        go true z = record { next-is = rw (node, z, some); opening-is = refl }
        go false z = record { next-is = rw (node, z); opening-is = refl }

    -- A name opens the node's slot of that name.
    named : (s : ℕ) → slot_named m i nm x.v ≡ s → opening m i (name nm) (value x.t x.v) ≡ s
    unfolding opening
    named s f = rw node f

    at_name : m.is_cast k ≡ false → StepIs m i (segment_at m k) x.t x.v (if_found no_next (λ s. contents_of i s) (slot_named m i nm x.v))
    unfolding after contents erased erase item_of item_in tab contents_of
    at_name e = rw (is_name e) (go (slot_named m i nm x.v) refl)
      where
        full : (s : ℕ) → slot_named m i nm x.v ≡ suc s → (b : Bool) → eqb (i.state s) 0 ≡ b → StepIs m i (name nm) x.t x.v
            (cond b (own_next 1 (record { t = 255; v = 0 })) (record { opened = 1; own = None; first = (i.slot_items s).first; count = (i.slot_items s).count }))
        full s f true z = record { next-is = rw (named (suc s) f, z); opening-is = rw (named (suc s) f) }
        full s f false z =
            record {
              next-is = rw (named (suc s) f, z) (erased-items i s (i.slot_items s).first (i.slot_items s).count);
              opening-is = rw (named (suc s) f);
            }

        go : (n : ℕ) → slot_named m i nm x.v ≡ n → StepIs m i (name nm) x.t x.v (if_found no_next (λ s. contents_of i s) n)
        go zero f = record { next-is = rw (named 0 f); opening-is = rw (named 0 f) }
        go (suc s) f = full s f (eqb (i.state s) 0) refl

  -- What comes next is what takes the item's place, if that is not null.
  pub step_is : null_code x.t x.v ≡ false → StepIs m i (segment_at m k) x.t x.v (next_at m i k x)
  unfolding next_at
  step_is some = go (structured m x.t) refl (m.is_cast k) refl
    where
      go : (a : Bool) → structured m x.t ≡ a → (b : Bool) → m.is_cast k ≡ b →
          StepIs m i (segment_at m k) x.t x.v
          (cond a (cond b (kept_next (ancestor_or_self m (m.cast_type k) x.t) x) (if_found no_next (λ s. contents_of i s) (slot_named m i nm x.v))) no_next)
      go false e b f = not-node e
      go true e true f = at-cast e some f
      go true e false f = at_name e f
