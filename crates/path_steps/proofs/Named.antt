-- What rule 14 says of a segment: a name is the name of the property that it resolves to. Assumes nothing.
use Prim.Native.Nat.{ℕ, zero, suc, ◌+◌, ◌-◌, ◌<◌}
use mathlib.Core.Path.{◌≡◌, refl, sym, ◌∙◌}
use mathlib.Core.List.{List}
use mathlib.Core.Bool.{true, false, false≢true, not}
use native.Mathlib.Omega.{arith}
use lib.Dec.{eqb}
use borrow.Author.Tests.{not-false}
use Rattle.packed.specs.Bytes.{same}
use Rattle.packed.proofs.Laws.{same_sound}
use Rattle.csdl.specs.Search.{tab, if_found, or_else}
use Rattle.csdl.specs.Climb.{nearest}
use Rattle.csdl.specs.Model.{Model, property_text, in_run}
use Rattle.csdl.specs.Find.{find, own, declares, structured}
use Rattle.csdl.specs.Path.{segment_at, step_at, resolves_at, resolves, moves_to, end_of, holders, path_of, start_of}
use Rattle.csdl.specs.Path.Segment.{name}
use Rattle.csdl.specs.Path.Step.{property}
use Rattle.csdl.specs.declared.PathKind.{PathKind}
use Rattle.csdl.specs.Form.{rule4}
use Rattle.csdl.specs.Paths.{unresolved_in, unresolved_of, unresolved, rule14}
use Rattle.csdl.specs.Accepted.{Kept}
use Rattle.csdl.proofs.Logic.{and_cases, and_no, any_none, first_found, in_run_lem}
use Rattle.csdl.proofs.Numbers.{numbers_fit}
use Rattle.csdl.proofs.Places.{of_segment}
use Rattle.csdl.proofs.Clauses.{rule14-is, no_kind}
use Rattle.path_resolution.specs.Resolution.{prefix}
use Rattle.path_resolution.proofs.Laws.{all_more}
use Rattle.path_resolution.proofs.Reading.{step_below}

module _ (m : Model) where
  own-named : (x : List ℕ) (t p : ℕ) → own m x t ≡ suc p → property_text m p ≡ x
  unfolding own declares
  own-named x t p e =
      let found = first_found (λ q. declares m x t q) 0 m.properties p e in
      same_sound (property_text m p) x (and_cases (eqb (m.owner p) t) (same (property_text m p) x) found.2).1

  nearest-named : (x : List ℕ) (left t p : ℕ) → nearest (λ u. own m x u) m.base left t ≡ suc p → property_text m p ≡ x
  unfolding nearest
  nearest-named x zero t p e = absurd (omega arith)
  nearest-named x (suc left) t p e = go (own m x t) refl (m.base t) e (λ u. nearest-named x left u p)
    where
      go : (o : ℕ) → own m x t ≡ o → (b : ℕ) → or_else o (if_found 0 (λ u. nearest (λ v. own m x v) m.base left u) b) ≡ suc p
          → ((u : ℕ) → nearest (λ v. own m x v) m.base left u ≡ suc p → property_text m p ≡ x) → property_text m p ≡ x
      go zero z zero e up = absurd (omega arith)
      go zero z (suc u) e up = up u e
      go (suc q) z b e up = own-named x t p (z ∙ e)

  find-named : (x : List ℕ) (t p : ℕ) → find m x t ≡ suc p → property_text m p ≡ x
  unfolding find
  find-named x t p e = nearest-named x m.types t p e

  -- A name that resolves is a property's.
  pub name_step : (t : ℕ) (x : List ℕ) → resolves_at m t (name x) ≡ true → (p : ℕ) × (step_at m t (name x) ≡ property p) × (p < m.properties) × (property_text m p ≡ x)
  unfolding resolves_at step_at
  name_step t x e = go (find m x t) refl (and_cases (structured m t) (not (eqb (find m x t) 0)) e).1
    where
      go : (f : ℕ) → find m x t ≡ f → not (eqb (find m x t) 0) ≡ true → (p : ℕ) × (step_at m t (name x) ≡ property p) × (p < m.properties) × (property_text m p ≡ x)
      go zero z n = let f : not (eqb (find m x t) 0) ≡ false = rw z in absurd (false≢true (sym f ∙ n))
      go (suc p) z n = let s : step_at m t (name x) ≡ property p = rw z in (p, s, step_below m t (name x) p s, find-named x t p z)

-- Where rules 4 and 14 are unbroken, each segment of each path resolves at the type before it.
module _ (m : Model) (kept4 : Kept m rule4) (kept14 : Kept m rule14) where
  none-unresolved : (w : PathKind) (g : ℕ) → g < m.segments → unresolved_of m w g ≡ false
  unfolding unresolved
  none-unresolved w g l = no_kind (λ x. unresolved_of m x g) (sym (rule14-is m g) ∙ of_segment m rule14 kept14 g l) w

  pub resolves-there : (w : PathKind) (r k : ℕ) → r < holders m w → k < (path_of m w r).count
      → resolves_at m (end_of m (start_of m w r) (prefix m (path_of m w r).first k)) (segment_at m ((path_of m w r).first + k)) ≡ true
  unfolding unresolved_of unresolved_in
  resolves-there w r k there h =
      let run = path_of m w r in
      let g = run.first + k in
      let e = any_none (λ x. unresolved_in m w g x) 0 (holders m w) (none-unresolved w g (omega (arith, (numbers_fit m kept4).path-there w r there))) r (omega arith) (omega arith) in
      let c : g + 1 - run.first ≡ suc k = omega arith in
      let part = resolves m (start_of m w r) (tab (λ x. segment_at m x) run.first (g + 1 - run.first)) in
      let f : part ≡ true = not-false part (and_no (in_run run g) (not part) e (in_run_lem run g (omega arith) (omega arith))) in
      let q = sym (all_more (λ u x. moves_to m u x) (λ x. segment_at m x) (λ u x. resolves_at m u x) (start_of m w r) run.first k) ∙ (rw c at f) in
      (and_cases (resolves m (start_of m w r) (prefix m run.first k)) (resolves_at m (end_of m (start_of m w r) (prefix m run.first k)) (segment_at m g)) q).1
