-- Every path that a record of an accepted model holds resolves, and no name but its last is a navigation property without containment.
use Prim.Native.Nat.{ℕ, ◌+◌, ◌-◌, ◌≤◌, ◌<◌, zero-le}
use mathlib.Core.Path.{◌≡◌, refl, sym, subst, ◌∙◌}
use mathlib.Core.List.{List, [], ◌∷◌}
use mathlib.Core.Bool.{Bool, true, false, cond, not, ◌&&◌, ◌||◌, or-true}
use mathlib.Core.Logic.{⊎_elim}
use native.Mathlib.Omega.{arith}
use lib.Dec.{eqb, ltb}
use borrow.Author.Tests.{eqb-false, ltb-true, ltb-false, not-false, not-true}
use Rattle.std.proofs.Common.{Option, Some, None}
use Rattle.csdl.specs.Search.{tab, all, some, but_last, last_or}
use Rattle.csdl.specs.Model.{Model, present, in_run, record_at, types_at, properties_at, keys_at, constraints_at, children_at, bindings_at, segments_at, places}
use Rattle.csdl.specs.Find.{complex, complex_step, contain_step, integral, structured}
use Rattle.csdl.specs.Path.{Segment, Step, segment_at, segments_of, along, step_at, moves_to, resolves, steps_of, holders, path_of, start_of, path_steps, path_end, properties, no_property, is_property, is_other}
use Rattle.csdl.specs.declared.PathKind.{PathKind}
use Rattle.csdl.specs.Path.Segment.{name, cast}
use Rattle.csdl.specs.Path.Step.{property, type, nothing}
use Rattle.csdl.specs.declared.PathKind.TheVariants.{Partner, Key, Dependent, Principal, Binding, Target}
use Rattle.csdl.proofs.Clauses.{rule14-is, no_kind}
use Rattle.csdl.specs.Paths.{unresolved_in, unresolved_of, unresolved, rule14, has_cast, key_step, key_end, key_type, key15, key15c, key15d, key15e, rule15, constraint_step, broken_inner, constraint16, rule16, property17, property17b, rule17, non_containment, target_step, binding19, binding19c, binding19g, rule19}
use Rattle.csdl.specs.Walk.{if_present, path_chosen}
use Rattle.csdl.specs.declared.Holder.{Holder}
use Rattle.csdl.specs.declared.Record.{Record}
use Rattle.csdl.specs.declared.Record.TheVariants.{OfSchema, OfType, OfProperty, OfKey, OfConstraint, OfChild, OfBinding, OfSegment, Nowhere}
use Rattle.csdl.specs.Accepted.{ModelKept}
use Rattle.csdl.proofs.Logic.{or_no, or_left, or_cases, and_cases, and_no, any_none, in_run_lem, off}
use Rattle.csdl.proofs.Numbers.{numbers_fit}
use Rattle.csdl.proofs.Places.{property-at, key_at, constraint_at, binding_at, of_property_lem, of_key, of_constraint, of_binding, of_segment}
use Rattle.soundness.specs.Demand.{Held, held_place, held_number}
use Rattle.soundness.proofs.Facts.{ModelFacts}
use Rattle.soundness.proofs.Ways.{Way, inner, names, way, way_map, on_inner, on-all, no_cast}

-- Of the two cases of a test, the one that it takes.
taken : {A : Type 0} (P : A → Type 0) (b : Bool) (x y : A) → (b ≡ true → P x) → (b ≡ false → P y) → P (cond b x y)
taken P true x y f g = f refl
taken P false x y f g = g refl

-- The record at a place is one of its table.
unfoldable InTable : Model → Record → Type 0
InTable m (OfSchema s) = s < m.schemas
InTable m (OfType t) = t < m.types
InTable m (OfProperty p) = p < m.properties
InTable m (OfKey k) = k < m.keys
InTable m (OfConstraint c) = c < m.constraints
InTable m (OfChild h) = h < m.children
InTable m (OfBinding b) = b < m.bindings
InTable m (OfSegment g) = g < m.segments
InTable m Nowhere = Unit {0}

in_table : (m : Model) (place : ℕ) → InTable m (record_at m place)
unfolding record_at InTable
in_table m place =
    taken (InTable m) (ltb place (types_at m)) _ _ (λ h. ltb-true place (types_at m) h) (λ h1.
    taken (InTable m) (ltb place (properties_at m)) _ _ (λ h. omega (arith, ltb-true place (properties_at m) h, ltb-false place (types_at m) h1)) (λ h2.
    taken (InTable m) (ltb place (keys_at m)) _ _ (λ h. omega (arith, ltb-true place (keys_at m) h, ltb-false place (properties_at m) h2)) (λ h3.
    taken (InTable m) (ltb place (constraints_at m)) _ _ (λ h. omega (arith, ltb-true place (constraints_at m) h, ltb-false place (keys_at m) h3)) (λ h4.
    taken (InTable m) (ltb place (children_at m)) _ _ (λ h. omega (arith, ltb-true place (children_at m) h, ltb-false place (constraints_at m) h4)) (λ h5.
    taken (InTable m) (ltb place (bindings_at m)) _ _ (λ h. omega (arith, ltb-true place (bindings_at m) h, ltb-false place (children_at m) h5)) (λ h6.
    taken (InTable m) (ltb place (segments_at m)) _ _ (λ h. omega (arith, ltb-true place (segments_at m) h, ltb-false place (bindings_at m) h6)) (λ h7.
    taken (InTable m) (ltb place (places m)) _ _ (λ h. omega (arith, ltb-true place (places m) h, ltb-false place (segments_at m) h7)) (λ h. tt))))))))

unfoldable HeldBy : Model → Option Holder → Type 0
HeldBy m None = Unit {0}
HeldBy m (Some h) = Held m h.kind h.number

held_by_lem : (m : Model) (w : PathKind) (r : ℕ) → r < holders m w → HeldBy m (if_present m w r)
unfolding HeldBy
held_by_lem m w r l = taken (HeldBy m) (present (path_of m w r)) (Some (record { kind = w; number = r })) None (λ e. record { holder-there = l; path-there = e }) (λ e. tt)

all_held : (m : Model) (r : Record) (n : ℕ) → InTable m r → HeldBy m (path_chosen m r n)
unfolding HeldBy path_chosen InTable holders
all_held m (OfSchema s) n l = tt
all_held m (OfType t) n l = tt
all_held m (OfProperty p) n l = taken (HeldBy m) (eqb n 0) (if_present m Partner p) None (λ e. held_by_lem m Partner p l) (λ e. tt)
all_held m (OfKey k) n l = taken (HeldBy m) (eqb n 0) (if_present m Key k) None (λ e. held_by_lem m Key k l) (λ e. tt)
all_held m (OfConstraint c) n l =
    taken (HeldBy m) (eqb n 0) (if_present m Dependent c) _ (λ e. held_by_lem m Dependent c l)
    (λ e. taken (HeldBy m) (eqb n 1) (if_present m Principal c) None (λ f. held_by_lem m Principal c l) (λ f. tt))
all_held m (OfChild h) n l = tt
all_held m (OfBinding b) n l =
    taken (HeldBy m) (eqb n 0) (if_present m Binding b) _ (λ e. held_by_lem m Binding b l)
    (λ e. taken (HeldBy m) (eqb n 1) (if_present m Target b) None (λ f. held_by_lem m Target b l) (λ f. tt))
all_held m (OfSegment g) n l = tt
all_held m Nowhere n l = tt

pub held_at : (m : Model) (place n : ℕ) (w : PathKind) (r : ℕ) → path_chosen m (record_at m place) n ≡ Some (record { kind = w; number = r }) → Held m w r
unfolding HeldBy
held_at m place n w r e = subst (HeldBy m) e (all_held m (record_at m place) n (in_table m place))

-- Each held path is the one that its place and number choose.
pub held_chosen : (m : Model) (w : PathKind) (r : ℕ) → Held m w r → path_chosen m (record_at m (held_place m w r)) (held_number w) ≡ Some (record { kind = w; number = r })
unfolding path_chosen held_place held_number holders
held_chosen m Partner r h = rw (property-at m r h.holder-there, h.path-there)
held_chosen m Key r h = rw (key_at m r h.holder-there, h.path-there)
held_chosen m Dependent r h = rw (constraint_at m r h.holder-there, h.path-there)
held_chosen m Principal r h = rw (constraint_at m r h.holder-there, h.path-there)
held_chosen m Binding r h = rw (binding_at m r h.holder-there, h.path-there)
held_chosen m Target r h = rw (binding_at m r h.holder-there, h.path-there)

-- Laws of lists of steps.
module _ (bad : Step → Bool) (good : ℕ → Bool) (fine : (p : ℕ) → bad (property p) ≡ false → good p ≡ true) where
  -- Where no step is bad, every name is good.
  pub none_bad : (l : List Step) → some bad l ≡ false → all good (properties l) ≡ true
  unfolding some all properties
  none_bad [] e = refl
  none_bad (property p ∷ l) e = let c = or_no (bad (property p)) (some bad l) e in rw (fine p c.0) (none_bad l c.1)
  none_bad (type c ∷ l) e = none_bad l (or_no (bad (type c)) (some bad l) e).1
  none_bad (nothing ∷ l) e = none_bad l (or_no (bad nothing) (some bad l) e).1

all_more : (good better : ℕ → Bool) → ((p : ℕ) → good p ≡ true → better p ≡ true) → (l : List ℕ) → all good l ≡ true → all better l ≡ true
unfolding all
all_more good better f [] e = refl
all_more good better f (p ∷ l) e = let c = and_cases (good p) (all good l) e in rw (f p c.0) (all_more good better f l c.1)

but_cons : (good : ℕ → Bool) (p : ℕ) (l : List ℕ) → good p ≡ true → all good (but_last l) ≡ true → all good (but_last (p ∷ l)) ≡ true
unfolding all but_last
but_cons good p [] e f = refl
but_cons good p (q ∷ l) e f = rw e f

-- The names but the last are names of the steps but the last.
but_names : (good : ℕ → Bool) (l : List Step) → all good (properties (but_last l)) ≡ true → all good (but_last (properties l)) ≡ true
unfolding all but_last properties
but_names good [] e = refl
but_names good (property p ∷ []) e = refl
but_names good (type c ∷ []) e = refl
but_names good (nothing ∷ []) e = refl
but_names good (property p ∷ (s ∷ l)) e =
    let c = and_cases (good p) (all good (properties (but_last (s ∷ l)))) e in
    but_cons good p (properties (s ∷ l)) c.0 (but_names good (s ∷ l) c.1)
but_names good (type c ∷ (s ∷ l)) e = but_names good (s ∷ l) e
but_names good (nothing ∷ (s ∷ l)) e = but_names good (s ∷ l) e

-- The names of the steps but the last, and the last.
with_last : (bad : Step → Bool) (good : ℕ → Bool) → ((p : ℕ) → bad (property p) ≡ false → good p ≡ true) →
    (d : Step) (l : List Step) → all good (properties (but_last l)) ≡ true → bad (last_or d l) ≡ false → all good (properties l) ≡ true
unfolding all but_last properties last_or
with_last bad good fine d [] e f = refl
with_last bad good fine d (property p ∷ []) e f = rw (fine p f)
with_last bad good fine d (type c ∷ []) e f = refl
with_last bad good fine d (nothing ∷ []) e f = refl
with_last bad good fine d (property p ∷ (s ∷ l)) e f =
    let c = and_cases (good p) (all good (properties (but_last (s ∷ l)))) e in
    rw c.0 (with_last bad good fine (property p) (s ∷ l) c.1 f)
with_last bad good fine d (type c ∷ (s ∷ l)) e f = with_last bad good fine (type c) (s ∷ l) e f
with_last bad good fine d (nothing ∷ (s ∷ l)) e f = with_last bad good fine nothing (s ∷ l) e f

no_casts : (m : Model) (t : ℕ) (gs : List Segment) → has_cast (steps_of m t gs) ≡ false → no_cast gs ≡ true
unfolding along step_at moves_to some no_cast
no_casts m t [] e = refl
no_casts m t (name nm ∷ gs) e =
    let to = moves_to m t (name nm) in
    no_casts m to gs (or_no (no_property (step_at m t (name nm))) (has_cast (steps_of m to gs)) e).1
no_casts m t (cast c ∷ gs) e = sym e

-- No navigation property without containment.
abbrev pub stays : Model → ℕ → Bool
stays m p = not (non_containment m p)

module _ (m : Model) (k : ModelKept m) where
  -- Rule 4: the path lies within the segments.
  pub within : (w : PathKind) (r : ℕ) → Held m w r → (path_of m w r).first + (path_of m w r).count ≤ m.segments
  within w r h = (numbers_fit m k.kept4).path-there w r h.holder-there

  -- Rule 14: every segment resolves, so the path does.
  none-unresolved : (w : PathKind) (g : ℕ) → g < m.segments → unresolved_of m w g ≡ false
  unfolding unresolved
  none-unresolved w g l = no_kind (λ x. unresolved_of m x g) (sym (rule14-is m g) ∙ of_segment m rule14 k.kept14 g l) w

  pub resolved : (w : PathKind) (r : ℕ) → Held m w r → resolves m (start_of m w r) (segments_of m (path_of m w r)) ≡ true
  unfolding unresolved_of unresolved_in
  resolved w r h =
      let run = path_of m w r in
      let n = eqb-false run.count 0 (not-true (eqb run.count 0) h.path-there) in
      let g = run.first + run.count - 1 in
      let e = any_none (λ x. unresolved_in m w g x) 0 (holders m w) (none-unresolved w g (omega (arith, within w r h, n))) r zero-le (omega (arith, h.holder-there)) in
      let here = in_run_lem run g (omega (arith, n)) (omega (arith, n)) in
      let c : g + 1 - run.first ≡ run.count = omega (arith, n) in
      let part = resolves m (start_of m w r) (tab (λ x. segment_at m x) run.first (g + 1 - run.first)) in
      let f : part ≡ true = not-false part (and_no (in_run run g) (not part) e here) in
      rw c at f

  -- What a step of each kind of path may be.
  complex-stays : (p : ℕ) → complex_step m p ≡ true → stays m p ≡ true
  unfolding complex_step non_containment
  complex-stays p e = let c = and_cases (not (m.navigation p)) (complex m (m.type_ref p)) e in rw (not-true (m.navigation p) c.0)

  contain_stays : (p : ℕ) → contain_step m p ≡ true → stays m p ≡ true
  unfolding contain_step non_containment
  contain_stays p e = let c = and_cases (m.navigation p) (m.contains p) e in rw (c.0, c.1)

  plain_stays : (p : ℕ) → m.navigation p ≡ false → stays m p ≡ true
  unfolding non_containment
  plain_stays p e = rw e

  key_stays : (p : ℕ) → not (key_step m p) ≡ false → stays m p ≡ true
  unfolding key_step
  key_stays p e = complex-stays p (and_cases (not (m.collection p) && not (m.nullable p)) (complex_step m p) (not-false (key_step m p) e)).1

  constraint_stays : (p : ℕ) → not (constraint_step m p) ≡ false → stays m p ≡ true
  unfolding constraint_step
  constraint_stays p e = complex-stays p (and_cases (not (m.collection p)) (complex_step m p) (not-false (constraint_step m p) e)).1

  target-stays : (p : ℕ) → not (target_step m p) ≡ false → stays m p ≡ true
  unfolding target_step
  target-stays p e =
      ⊎_elim (complex-stays p) (contain_stays p)
      (or_cases (complex_step m p) (contain_step m p)
      (and_cases (not (m.collection p)) (complex_step m p || contain_step m p) (not-false (target_step m p) e)).1)

  -- Rules 15 to 17 and 19: no name but the last leaves.
  from_steps : (bad : Step → Bool) → ((p : ℕ) → bad (property p) ≡ false → stays m p ≡ true) → (l : List Step) → some bad (but_last l) ≡ false →
      all (stays m) (but_last (properties l)) ≡ true
  from_steps bad fine l e = but_names (stays m) l (none_bad bad (stays m) fine (but_last l) e)

  names_stay : (l : List ℕ) → some (λ q. non_containment m q) l ≡ false → all (stays m) l ≡ true
  unfolding some all
  names_stay [] f = refl
  names_stay (q ∷ l) f = let c = or_no (non_containment m q) (some (λ z. non_containment m z) l) f in rw c.0 (names_stay l c.1)

  constraint_form : (l : List Step) → broken_inner m l ≡ false → all (stays m) (but_last (properties l)) ≡ true
  unfolding broken_inner
  constraint_form l e = from_steps (λ s. is_other (λ p. constraint_step m p) s) constraint_stays l e

  pub inner_stays : (w : PathKind) (r : ℕ) → Held m w r → all (stays m) (but_last (properties (path_steps m w r))) ≡ true
  unfolding holders path_of property17 key15 constraint16 binding19
  inner_stays Partner p h =
      let e = off (property17 m p) (property17b m p) (λ q. rw h.path-there (simp (q, or-true))) (of_property_lem m rule17 k.kept17 p h.holder-there) in
      from_steps (λ s. is_property (λ q. m.navigation q) s) plain_stays (path_steps m Partner p) e
  inner_stays Key c h =
      let e = off (key15 m c) (key15d m c) (λ q. simp (q, or-true)) (of_key m rule15 k.kept15 c h.holder-there) in
      from_steps (λ s. is_other (λ p. key_step m p) s) key_stays (path_steps m Key c) e
  inner_stays Dependent c h =
      constraint_form (path_steps m Dependent c)
      (off (constraint16 m c) (broken_inner m (path_steps m Dependent c)) (λ q. simp (q, or-true)) (of_constraint m rule16 k.kept16 c h.holder-there))
  inner_stays Principal c h =
      constraint_form (path_steps m Principal c)
      (off (constraint16 m c) (broken_inner m (path_steps m Principal c)) (λ q. simp (q, or-true)) (of_constraint m rule16 k.kept16 c h.holder-there))
  inner_stays Binding b h =
      names_stay (but_last (properties (path_steps m Binding b)))
      (off (binding19 m b) (binding19c m b) (λ q. simp (q, or-true)) (of_binding m rule19 k.kept19 b h.holder-there))
  inner_stays Target b h =
      let e = off (binding19 m b) (binding19g m b) (λ q. simp (q, or-true)) (of_binding m rule19 k.kept19 b h.holder-there) in
      let inner = some (λ s. is_other (λ p. target_step m p) s) (but_last (path_steps m Target b)) in
      from_steps (λ s. is_other (λ p. target_step m p) s) target-stays (path_steps m Target b) (or_no inner _ e).0

  module _ (f : ModelFacts m) where
    stays-integral : (b : Bool) (p : ℕ) → p < m.properties → (b ≡ true → structured m (m.type_ref p) ≡ true) → inner (stays m) b p ≡ true →
        inner (integral m) b p ≡ true
    unfolding inner non_containment integral complex_step contain_step
    stays-integral false p l s e = refl
    stays-integral true p l s e = go (m.navigation p) refl
      where
        go : (n : Bool) → m.navigation p ≡ n → integral m p ≡ true
        go true n = rw n (not-false (m.contains p) (not-true (not (m.contains p)) (rw n at e)))
        go false n = rw n (or_left (complex m (m.type_ref p)) false (f.structural p l n (s refl)))

    -- The path of a record, as a way with integral inner names.
    pub path_way : (w : PathKind) (r : ℕ) → Held m w r → Way m (inner (integral m)) (start_of m w r) (segments_of m (path_of m w r)) (path_end m w r)
    path_way w r h =
        let t = start_of m w r in
        let gs = segments_of m (path_of m w r) in
        way_map m f stays-integral (way m (inner (stays m)) t gs (resolved w r h) (on_inner (stays m) (names m t gs) (inner_stays w r h)))

  -- Rule 15: a key's names are single and not nullable, and it has no cast.
  abbrev required : ℕ → Bool
  required p = not (m.collection p) && not (m.nullable p)

  step_required : (p : ℕ) → not (key_step m p) ≡ false → required p ≡ true
  unfolding key_step
  step_required p e = (and_cases (required p) (complex_step m p) (not-false (key_step m p) e)).0

  end_required : (p : ℕ) → not (key_end m p) ≡ false → required p ≡ true
  unfolding key_end
  end_required p e = (and_cases (required p) (key_type m (m.type_ref p)) (not-false (key_end m p) e)).0

  pub key_way : (r : ℕ) → Held m Key r → Way m (λ b p. required p) (start_of m Key r) (segments_of m (path_of m Key r)) (path_end m Key r)
  unfolding key15 holders
  key_way r h =
      let kept = of_key m rule15 k.kept15 r h.holder-there in
      let steps = path_steps m Key r in
      let d = off (key15 m r) (key15d m r) (λ q. simp (q, or-true)) kept in
      let e = off (key15 m r) (key15e m r) (λ q. simp (q, or-true)) kept in
      let a = none_bad (λ s. is_other (λ p. key_step m p) s) required step_required (but_last steps) d in
      let b = with_last (λ s. is_other (λ p. key_end m p) s) required end_required nothing steps a e in
      way m (λ x p. required p) (start_of m Key r) (segments_of m (path_of m Key r)) (resolved Key r h) (on-all required (properties steps) b)

  pub key_plain : (r : ℕ) → Held m Key r → no_cast (segments_of m (path_of m Key r)) ≡ true
  unfolding key15 key15c holders
  key_plain r h =
      no_casts m (start_of m Key r) (segments_of m (path_of m Key r))
      (off (key15 m r) (key15c m r) (λ q. simp (q, or-true)) (of_key m rule15 k.kept15 r h.holder-there))

  pub key_single : (b : Bool) (p : ℕ) → required p ≡ true → (m.collection p ≡ false) × (m.nullable p ≡ false)
  key_single b p e = let c = and_cases (not (m.collection p)) (not (m.nullable p)) e in (not-true (m.collection p) c.0, not-true (m.nullable p) c.1)
