-- What a name means at a type, and at a type derived from it.
use Prim.Native.Nat.{ℕ, zero, suc, ◌<◌}
use mathlib.Core.Path.{◌≡◌, refl, sym, ◌∙◌}
use mathlib.Core.List.{List}
use mathlib.Core.Bool.{Bool, true, false, false≢true, ◌&&◌}
use mathlib.Core.Logic.{⊎_elim}
use native.Mathlib.Omega.{arith}
use lib.Dec.{eqb, ltb, leb}
use borrow.Author.Tests.{eqb-true, eq-eqb, ltb-true, ltb-false, lt-ltb}
use Rattle.packed.specs.Bytes.{same}
use Rattle.packed.proofs.Laws.{same_sound, same_refl}
use Rattle.csdl.specs.Model.{Model, text}
use Rattle.csdl.specs.Find.{ancestor, ancestor_or_self, structured, declares, own, find}
use Rattle.csdl.specs.Properties.{alike, same_name, redeclares}
use Rattle.csdl.proofs.Logic.{and_cases, and_both, or_cases, or_right, first_found}
use Rattle.csdl.proofs.Climbing.{Above, climb_sound, climb_found, nearest_sound, nearest-is-own, nearest-is_up}
use Rattle.csdl.proofs.Climbing.Above.{is-next, of_next}
use Rattle.soundness.proofs.Facts.{ModelFacts}

-- t is a or derives from it.
pub data At (m : Model) (a : ℕ) : ℕ → Type 0 where
  here : At m a a
  up_to : {t u : ℕ} → m.base t ≡ suc u → At m a u → At m a t

module _ (m : Model) where
  pub at_above : {a t : ℕ} → Above m.base a t → At m a t
  at_above (is-next e) = up_to e here
  at_above (of_next e r) = up_to e (at_above r)

  pub at_same : {a t : ℕ} → t ≡ a → At m a t
  at_same e = rw e here

  pub at_trans : {a b t : ℕ} → At m a b → At m b t → At m a t
  at_trans r here = r
  at_trans r (up_to e s) = up_to e (at_trans r s)

  -- One step up and then at: above.
  above_at : {a u : ℕ} (t : ℕ) → m.base t ≡ suc u → At m a u → Above m.base a t
  above_at t e here = is-next e
  above_at t e (up_to {t = w} f r) = of_next e (above_at w f r)

  pub at_sound : (a t : ℕ) → ancestor_or_self m a t ≡ true → At m a t
  unfolding ancestor_or_self ancestor
  at_sound a t e = ⊎_elim (λ h. at_same (eqb-true t a h)) (λ h. at_above (climb_sound m.base a m.types t h)) (or_cases (eqb t a) (ancestor m a t) e)

  -- What a name means at a type: a property of that name, declared at the type or above it.
  own_sound : (nm : List ℕ) (t p : ℕ) → own m nm t ≡ suc p → (p < m.properties) × (m.owner p ≡ t) × (text m (m.property_name p) ≡ nm)
  unfolding own declares
  own_sound nm t p e =
      let w = first_found (λ q. declares m nm t q) 0 m.properties p e in
      let c = and_cases (eqb (m.owner p) t) (same (text m (m.property_name p)) nm) w.2 in
      (omega arith, eqb-true (m.owner p) t c.0, same_sound (text m (m.property_name p)) nm c.1)

  pub find_sound : (nm : List ℕ) (t p : ℕ) → find m nm t ≡ suc p → (p < m.properties) × At m (m.owner p) t × (text m (m.property_name p) ≡ nm)
  unfolding find
  find_sound nm t p e =
      let w = nearest_sound (λ u. own m nm u) m.base m.types t p e in
      let o = own_sound nm w.0 p w.1 in
      (o.0, rw o.1 (⊎_elim (λ q. at_same (sym q)) at_above w.2), o.2)

-- q takes the place of p: its type is at p's, and the bits agree.
pub record Refines (m : Model) (p q : ℕ) : Type 0 where
  pub type_at : At m (m.type_ref p) (m.type_ref q)
  pub navigation-same : m.navigation q ≡ m.navigation p
  pub collection-same : m.collection q ≡ m.collection p
  pub nullable-same : m.nullable q ≡ m.nullable p
  pub contains-same : m.contains q ≡ m.contains p

refines_self : (m : Model) (p : ℕ) → Refines m p p
refines_self m p = record { type_at = here; navigation-same = refl; collection-same = refl; nullable-same = refl; contains-same = refl }

refines_trans : (m : Model) (p q r : ℕ) → Refines m p q → Refines m q r → Refines m p r
refines_trans m p q r a b =
    record {
      type_at = at_trans m a.type_at b.type_at;
      navigation-same = b.navigation-same ∙ a.navigation-same;
      collection-same = b.collection-same ∙ a.collection-same;
      nullable-same = b.nullable-same ∙ a.nullable-same;
      contains-same = b.contains-same ∙ a.contains-same;
    }

alike-true : (a b : Bool) → alike a b ≡ true → a ≡ b
alike-true true true e = refl
alike-true true false e = absurd (false≢true e)
alike-true false true e = absurd (false≢true e)
alike-true false false e = refl

redeclares_refines : (m : Model) (q p : ℕ) → redeclares m q p ≡ true → Refines m p q
unfolding redeclares ancestor
redeclares_refines m q p e =
    let n = alike (m.navigation q) (m.navigation p) in
    let d = ancestor m (m.type_ref p) (m.type_ref q) in
    let c = alike (m.collection q) (m.collection p) in
    let u = alike (m.nullable q) (m.nullable p) in
    let o = alike (m.contains q) (m.contains p) in
    let w = and_cases (n && d && c && u) o e in
    let x = and_cases (n && d && c) u w.0 in
    let y = and_cases (n && d) c x.0 in
    let z = and_cases n d y.0 in
    record {
      type_at = at_above m (climb_sound m.base (m.type_ref p) m.types (m.type_ref q) z.1);
      navigation-same = alike-true (m.navigation q) (m.navigation p) z.0;
      collection-same = alike-true (m.collection q) (m.collection p) y.1;
      nullable-same = alike-true (m.nullable q) (m.nullable p) x.1;
      contains-same = alike-true (m.contains q) (m.contains p) w.1;
    }

module _ (m : Model) (k : ModelFacts m) where
  base-below : (t u : ℕ) → m.base t ≡ suc u → t < m.types
  base-below t u e = go (ltb t m.types) refl
    where
      go : (b : Bool) → ltb t m.types ≡ b → t < m.types
      go true q = ltb-true t m.types q
      go false q = absurd (let z = k.base-none t (ltb-false t m.types q) in omega arith)

  pub at-below : {a t : ℕ} → a < m.types → At m a t → t < m.types
  at-below l here = l
  at-below l (up_to {t} {u} e r) = base-below t u e

  at_over : {a t : ℕ} → At m a t → t < m.types → a < m.types
  at_over here l = l
  at_over (up_to {t} {u} e r) l = at_over r (omega (arith, k.base-small t l))

  pub at-kind : {a t : ℕ} → At m a t → m.kind t ≡ m.kind a
  at-kind here = refl
  at-kind (up_to {t} {u} e r) = k.base-kind t u (base-below t u e) e ∙ at-kind r

  above_found : (a t : ℕ) → t < m.types → Above m.base a t → ancestor m a t ≡ true
  unfolding ancestor
  above_found a t l r = climb_found m.base a m.types k.base-small t l r

  pub at-is : (a t : ℕ) → At m a t → ancestor_or_self m a t ≡ true
  unfolding ancestor_or_self
  at-is a t here = rw (eq-eqb a a refl)
  at-is a t (up_to {u} e r) = or_right (eqb t a) (ancestor m a t) (above_found a t (base-below t u e) (above_at m t e r))

  -- A type derived from a structured type is structured, and the other way round.
  pub structured-at : (t r : ℕ) → At m t r → structured m t ≡ true → structured m r ≡ true
  unfolding structured
  structured-at t r a e =
      let c = and_cases (ltb t m.types) (leb (m.kind t) 1) e in
      and_both (ltb r m.types) (leb (m.kind r) 1) (lt-ltb r m.types (at-below (ltb-true t m.types c.0) a)) (rw (at-kind a) c.1)

  pub structured_up : (t c : ℕ) → At m t c → structured m c ≡ true → structured m t ≡ true
  unfolding structured
  structured_up t c a e =
      let d = and_cases (ltb c m.types) (leb (m.kind c) 1) e in
      and_both (ltb t m.types) (leb (m.kind t) 1) (lt-ltb t m.types (at_over a (ltb-true c m.types d.0))) (rw (← at-kind a) d.1)

  find-own : (nm : List ℕ) (t p : ℕ) → t < m.types → own m nm t ≡ suc p → find m nm t ≡ suc p
  unfolding find
  find-own nm t p l e = nearest-is-own (λ u. own m nm u) m.base m.types k.base-small t p l e

  find_up : (nm : List ℕ) (t u : ℕ) → t < m.types → own m nm t ≡ 0 → m.base t ≡ suc u → find m nm t ≡ find m nm u
  unfolding find
  find_up nm t u l e f = nearest-is_up (λ z. own m nm z) m.base m.types k.base-small t u l e f

  same-name : (nm : List ℕ) (p q : ℕ) → text m (m.property_name p) ≡ nm → text m (m.property_name q) ≡ nm → same_name m p q ≡ true
  unfolding same_name
  same-name nm p q e f = rw (e, f) (same_refl nm)

  -- A name that a type has, each type derived from it has, by a property that takes the other's place.
  pub refined : (nm : List ℕ) {s t : ℕ} (p : ℕ) → At m s t → t < m.types → find m nm s ≡ suc p → (q : ℕ) × (find m nm t ≡ suc q) × Refines m p q
  refined nm p here l e = (p, e, refines_self m p)
  refined nm {s} p (up_to {t} {u} b r) l e =
      let small : u < m.types = omega (arith, k.base-small t l) in
      go (refined nm p r small e) (own m nm t) refl
    where
      go : ((q : ℕ) × (find m nm u ≡ suc q) × Refines m p q) → (o : ℕ) → own m nm t ≡ o → (q : ℕ) × (find m nm t ≡ suc q) × Refines m p q
      go w zero o = (w.0, find_up nm t u l o b ∙ w.1, w.2)
      go w (suc q) o =
          let x = own_sound m nm t q o in
          let y = find_sound m nm u w.0 w.1 in
          let d : ancestor m (m.owner w.0) (m.owner q) ≡ true = rw x.1 (above_found (m.owner w.0) t l (above_at m t b y.1)) in
          let n = same-name nm q w.0 x.2 y.2 in
          (q, find-own nm t q l o, refines_trans m p w.0 q w.2 (redeclares_refines m q w.0 (k.redeclared q w.0 x.0 y.0 d n)))
