-- A path of single properties that are not nullable, without casts, gives one result, not null.
use Prim.Native.Nat.{ℕ, zero, suc, ◌≤◌, ◌<◌}
use mathlib.Core.Path.{◌≡◌, refl, ap, ◌∙◌}
use mathlib.Core.List.{List, [], ◌∷◌}
use mathlib.Core.Bool.{Bool, true, false, false≢true, cond, ◌&&◌}
use native.Mathlib.Omega.{arith}
use lib.ListN.{length}
use borrow.Author.Tests.{not-false}
use Rattle.csdl.specs.Search.{tab, flat}
use Rattle.csdl.specs.Model.{Model}
use Rattle.csdl.specs.Find.{structured, find}
use Rattle.csdl.specs.Path.{Segment}
use Rattle.csdl.specs.Path.Segment.{name}
use Rattle.csdl.specs.Instance.{Instance}
use Rattle.csdl.specs.Conforms.{is_null, item25of}
use Rattle.csdl.specs.Walk.{item_at, contents, opening, after, walked, opened}
use Rattle.csdl.specs.Walk.Item.{null, value}
use Rattle.csdl.specs.Walk.Origin.{at_slot}
use Rattle.csdl.proofs.Logic.{and_cases, true-false, in_run_lem}
use Rattle.soundness.proofs.Facts.{ModelFacts, InstanceFacts}
use Rattle.soundness.proofs.Lists.{all_head}
use Rattle.soundness.proofs.Find.{Refines, structured-at}
use Rattle.soundness.proofs.Ways.{Way, has_name, no_cast}
use Rattle.soundness.proofs.Ways.Way.{end, by_name, by_cast}
use Rattle.soundness.proofs.Typed.{Fits, fits_up, opens, contents_typed}

module _ (m : Model) (i : Instance) (k : ModelFacts m) (j : InstanceFacts m i) where
  -- A slot of a single property that is not nullable holds one item, not null.
  one-item : (s : ℕ) → s < i.slots → m.collection (i.slot_property s) ≡ false → m.nullable (i.slot_property s) ≡ false →
      (r v : ℕ) × (contents i s ≡ value r v ∷ [])
  unfolding contents item25of tab item_at
  one-item s l c n = go (i.state s) refl (j.state_known s l)
    where
      p : ℕ
      p = i.slot_property s

      f : ℕ
      f = (i.slot_items s).first

      sort : (b : Bool) → is_null i f ≡ b → item25of m i p f ≡ false →
          (r v : ℕ) × (cond b (null (at_slot s)) (value (i.item_ref f) (i.item_handle f)) ∷ [] ≡ value r v ∷ [])
      sort true e h = true-false (m.collection p) (and_cases (m.collection p) (m.nullable p) (not-false (m.collection p && m.nullable p) (rw e at h))).0 c
      sort false e h = (i.item_ref f, i.item_handle f, refl)

      go : (z : ℕ) → i.state s ≡ z → z ≤ 2 → (r v : ℕ) × (contents i s ≡ value r v ∷ [])
      go zero e h = true-false (m.nullable p) (j.null-fits s l e) n
      go (suc zero) e h =
          let one : (i.slot_items s).count ≡ 1 = j.single-one s l e in
          rw (e, one) (sort (is_null i f) refl (j.item-fits s f l (in_run_lem (i.slot_items s) f (omega arith) (omega arith))))
      go (suc (suc zero)) e h = true-false (m.collection p) (j.many_fits s l e) c
      go (suc (suc (suc z))) e h = absurd (omega arith)

  -- One step.
  record Next (nm : List ℕ) (u r v : ℕ) : Type 0 where
    type : ℕ
    handle : ℕ
    slot : ℕ
    opens_it : opening m i (name nm) (value r v) ≡ suc slot
    after_it : after m i (name nm) (value r v) ≡ value type handle ∷ []
    fits : Fits m i u (value type handle)

  next_of : (nm : List ℕ) (p r v s : ℕ) → opening m i (name nm) (value r v) ≡ suc s → s < i.slots → Refines m p (i.slot_property s) →
      (r' v' : ℕ) → contents i s ≡ value r' v' ∷ [] → Next nm (m.type_ref p) r v
  unfolding after
  next_of nm p r v s o l f r' v' e =
      record {
        type = r';
        handle = v';
        slot = s;
        opens_it = o;
        after_it = rw o e;
        fits = fits_up m i (m.type_ref p) (m.type_ref (i.slot_property s)) f.type_at (value r' v') (all_head (rw e at (contents_typed m i k j s l)));
      }

  next : (nm : List ℕ) (t p r v : ℕ) → structured m t ≡ true → find m nm t ≡ suc p → (m.collection p ≡ false) × (m.nullable p ≡ false) →
      Fits m i t (value r v) → Next nm (m.type_ref p) r v
  unfolding opening Fits
  next nm t p r v st e q f =
      let sr = structured-at m k t r f.0 st in
      let n = f.1 sr in
      let a = opens m i k j nm t p v n.0 (rw n.1 f.0) e in
      let b = one-item a.slot a.slot_small (a.refines.collection-same ∙ q.0) (a.refines.nullable-same ∙ q.1) in
      next_of nm p r v a.slot (rw (sr, a.slot_is)) a.slot_small a.refines b.0 b.1 b.2

  -- Exactly one result, not null; and as many slots opened as there are segments.
  pub single : {ok : Bool → ℕ → Bool} → ((b : Bool) (p : ℕ) → ok b p ≡ true → (m.collection p ≡ false) × (m.nullable p ≡ false)) →
      {t u : ℕ} {gs : List Segment} → Way m ok t gs u → no_cast gs ≡ true → (r v : ℕ) → Fits m i t (value r v) →
      (r' v' : ℕ) × (walked m i gs (value r v ∷ []) ≡ value r' v' ∷ []) × (length (opened m i gs (value r v ∷ [])) ≡ length gs)
  unfolding walked opened no_cast flat
  single req end nc r v f = (r, v, refl, refl)
  single req {t} (by_name {p} {nm} {gs} st e o w) nc r v f =
      let a = next nm t p r v st e (req (has_name gs) p o) f in
      let c = single req w nc a.type a.handle a.fits in
      (c.0, c.1, rw a.after_it c.2, rw (a.opens_it, a.after_it) (ap suc c.3))
  single req (by_cast sc e w) nc r v f = absurd (false≢true nc)
