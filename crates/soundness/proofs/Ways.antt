-- A path that resolves, as the proofs follow it: segment by segment, with a test of each name.
use Prim.Native.Nat.{ℕ, suc, ◌-◌, ◌<◌}
use mathlib.Core.Path.{◌≡◌, refl}
use mathlib.Core.List.{List, [], ◌∷◌, ◌++◌}
use mathlib.Core.Bool.{Bool, true, false, false≢true, not, ◌&&◌}
use native.Mathlib.Omega.{arith}
use lib.Dec.{eqb}
use borrow.Author.Tests.{eqb-false, not-true}
use Rattle.csdl.specs.Search.{all, but_last}
use Rattle.csdl.specs.Model.{Model}
use Rattle.csdl.specs.Find.{structured, ancestor_or_self, find, integral}
use Rattle.csdl.specs.Path.{Segment, resolves_at, moves_to, step_at, along_all, along_end, along, resolves, end_of, steps_of, properties}
use Rattle.csdl.specs.Path.Segment.{name, cast}
use Rattle.csdl.proofs.Logic.{and_cases}
use Rattle.soundness.specs.Demand.{inner_integral}
use Rattle.soundness.proofs.Facts.{ModelFacts}
use Rattle.soundness.proofs.Find.{at_sound, find_sound, structured_up}

-- A name is among the segments.
unfoldable pub has_name : List Segment → Bool
has_name [] = false
has_name (name nm ∷ gs) = true
has_name (cast c ∷ gs) = has_name gs

-- The path resolves from t and ends at u; ok is asked of each property that a name means, and told whether a name follows.
pub data Way (m : Model) (ok : Bool → ℕ → Bool) : ℕ → List Segment → ℕ → Type 0 where
  end : {t : ℕ} → Way m ok t [] t
  by_name : {t u p : ℕ} {nm : List ℕ} {gs : List Segment} →
      structured m t ≡ true → find m nm t ≡ suc p → ok (has_name gs) p ≡ true → Way m ok (m.type_ref p) gs u → Way m ok t (name nm ∷ gs) u
  by_cast : {t c u : ℕ} {gs : List Segment} →
      structured m c ≡ true → ancestor_or_self m t c ≡ true → Way m ok c gs u → Way m ok t (cast c ∷ gs) u

-- A test of each name that another follows.
unfoldable pub inner : (ℕ → Bool) → Bool → ℕ → Bool
inner test true p = test p
inner test false p = true

-- The path has no cast.
unfoldable pub no_cast : List Segment → Bool
no_cast [] = true
no_cast (name nm ∷ gs) = no_cast gs
no_cast (cast c ∷ gs) = false

-- A test of each name of a path, told whether a name follows; of a list of properties, told whether one follows.
unfoldable pub on_names : (Bool → ℕ → Bool) → List ℕ → Bool
on_names ok [] = true
on_names ok (p ∷ []) = ok false p
on_names ok (p ∷ (q ∷ l)) = ok true p && on_names ok (q ∷ l)

suc_of : (x : ℕ) → not (eqb x 0) ≡ true → x ≡ suc (x - 1)
suc_of x e = let h : x ≡ 0 → ⊥ = eqb-false x 0 (not-true (eqb x 0) e) in omega arith

-- A path that resolves and begins with a name: the name means a property, and the rest resolves from that property's type.
found : (m : Model) (t : ℕ) (nm : List ℕ) (gs : List Segment) → resolves m t (name nm ∷ gs) ≡ true →
    (p : ℕ) × (structured m t ≡ true) × (find m nm t ≡ suc p) × (resolves m (m.type_ref p) gs ≡ true)
unfolding along_all resolves_at moves_to
found m t nm gs r =
    let a = and_cases (structured m t && not (eqb (find m nm t) 0)) (resolves m (moves_to m t (name nm)) gs) r in
    let b = and_cases (structured m t) (not (eqb (find m nm t) 0)) a.0 in
    let e = suc_of (find m nm t) b.1 in
    (find m nm t - 1, b.0, e, rw e at a.1)

-- What names a path has.
abbrev pub names : Model → ℕ → List Segment → List ℕ
names m t gs = properties (steps_of m t gs)

data Names (m : Model) (t : ℕ) (gs : List Segment) : Type 0 where
  no_name_lem : has_name gs ≡ false → names m t gs ≡ [] → Names m t gs
  a_name : (p : ℕ) (l : List ℕ) → has_name gs ≡ true → names m t gs ≡ p ∷ l → Names m t gs

names_of : (m : Model) (t : ℕ) (gs : List Segment) → resolves m t gs ≡ true → Names m t gs
unfolding has_name along along_all resolves_at step_at properties moves_to
names_of m t [] r = no_name_lem refl refl
names_of m t (name nm ∷ gs) r = let f = found m t nm gs r in a_name f.0 (names m (m.type_ref f.0) gs) refl (rw f.2)
names_of m t (cast c ∷ gs) r = go (names_of m c gs (and_cases (structured m c && ancestor_or_self m t c) (resolves m c gs) r).1)
  where
    go : Names m c gs → Names m t (cast c ∷ gs)
    go (no_name_lem e f) = no_name_lem e f
    go (a_name p l e f) = a_name p l e f

on-cons : (ok : Bool → ℕ → Bool) (p : ℕ) (m : Model) (t : ℕ) (gs : List Segment) → resolves m t gs ≡ true → on_names ok (p ∷ names m t gs) ≡ true →
    (ok (has_name gs) p ≡ true) × (on_names ok (names m t gs) ≡ true)
unfolding on_names
on-cons ok p m t gs r e = go (names_of m t gs r)
  where
    go : Names m t gs → (ok (has_name gs) p ≡ true) × (on_names ok (names m t gs) ≡ true)
    go (no_name_lem h f) = rw (h, f) (rw f at e, refl)
    go (a_name q l h f) = rw (h, f) (and_cases (ok true p) (on_names ok (q ∷ l)) (rw f at e))

-- What resolves, with names that pass, is a way.
pub way : (m : Model) (ok : Bool → ℕ → Bool) (t : ℕ) (gs : List Segment) → resolves m t gs ≡ true → on_names ok (names m t gs) ≡ true →
    Way m ok t gs (end_of m t gs)
unfolding along_all along_end along resolves_at moves_to step_at properties
way m ok t [] r s = end
way m ok t (name nm ∷ gs) r s =
    let f = found m t nm gs r in
    let p = f.0 in
    let c = on-cons ok p m (m.type_ref p) gs f.3 (rw f.2 at s) in
    rw f.2 (by_name f.1 f.2 c.0 (way m ok (m.type_ref p) gs f.3 c.1))
way m ok t (cast c ∷ gs) r s =
    let a = and_cases (structured m c && ancestor_or_self m t c) (resolves m c gs) r in
    let b = and_cases (structured m c) (ancestor_or_self m t c) a.0 in
    by_cast b.0 b.1 (way m ok c gs a.1 s)

-- All names pass; all names but the last pass.
pub on-all : (test : ℕ → Bool) (l : List ℕ) → all test l ≡ true → on_names (λ b p. test p) l ≡ true
unfolding on_names all
on-all test [] e = refl
on-all test (p ∷ []) e = (and_cases (test p) true e).0
on-all test (p ∷ (q ∷ l)) e = let c = and_cases (test p) (all test (q ∷ l)) e in rw c.0 (on-all test (q ∷ l) c.1)

pub on_inner : (test : ℕ → Bool) (l : List ℕ) → all test (but_last l) ≡ true → on_names (inner test) l ≡ true
unfolding on_names inner all but_last
on_inner test [] e = refl
on_inner test (p ∷ []) e = refl
on_inner test (p ∷ (q ∷ l)) e = let c = and_cases (test p) (all test (but_last (q ∷ l))) e in rw c.0 (on_inner test (q ∷ l) c.1)

pub inner_way : (m : Model) (t : ℕ) (gs : List Segment) → resolves m t gs ≡ true → inner_integral m t gs ≡ true → Way m (inner (integral m)) t gs (end_of m t gs)
unfolding inner_integral
inner_way m t gs r e = way m (inner (integral m)) t gs r (on_inner (integral m) (names m t gs) e)

module _ (m : Model) (k : ModelFacts m) where
  -- Where a name follows, the type is structured.
  way_structured : {ok : Bool → ℕ → Bool} {t u : ℕ} {gs : List Segment} → Way m ok t gs u → has_name gs ≡ true → structured m t ≡ true
  unfolding has_name
  way_structured end e = absurd (false≢true e)
  way_structured (by_name st f o w) e = st
  way_structured (by_cast {t} {c} sc a w) e = structured_up m k t c (at_sound m t c a) sc

  -- Another test that each property passes, which is in the table, and of structured type where a name follows.
  pub way_map : {ok other : Bool → ℕ → Bool} →
      ((b : Bool) (p : ℕ) → p < m.properties → (b ≡ true → structured m (m.type_ref p) ≡ true) → ok b p ≡ true → other b p ≡ true) →
      {t u : ℕ} {gs : List Segment} → Way m ok t gs u → Way m other t gs u
  way_map f end = end
  way_map f (by_name {t} {p = p} {nm} {gs} st e o w) = by_name st e (f (has_name gs) p (find_sound m nm t p e).0 (way_structured w) o) (way_map f w)
  way_map f (by_cast sc a w) = by_cast sc a (way_map f w)

-- A way as far as some segment, whatever was asked of its names.
pub way_before : {m : Model} {ok : Bool → ℕ → Bool} {t u : ℕ} (a b : List Segment) → Way m ok t (a ++ b) u → (e : ℕ) × Way m (λ x p. true) t a e
way_before {t = t} [] b w = (t, end)
way_before (g ∷ a) b (by_name st e o w) = let z = way_before a b w in (z.0, by_name st e refl z.1)
way_before (g ∷ a) b (by_cast sc e w) = let z = way_before a b w in (z.0, by_cast sc e z.1)
