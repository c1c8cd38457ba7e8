-- Rule 19 out of the codes of all segments and the index of the names. Assumes nothing.
use Prim.Native.Nat.{ℕ, ◌+◌, ◌≤◌, ◌<◌}
use mathlib.Core.Path.{◌≡◌, sym, ◌∙◌, ap, ap₂}
use mathlib.Core.List.{List}
use mathlib.Core.Bool.{true, not, ◌&&◌, ◌||◌, or_assoc, and-true, and-false}
use native.Mathlib.Omega.{arith}
use lib.Dec.{eqb}
use lib.ListN.{get_or}
use borrow.Author.Tests.{eq-eqb, ne_eqb, lt-ltb, le-ltb}
use Rattle.packed.specs.Bytes.{same}
use Rattle.csdl.specs.Model.{Model, property_text}
use Rattle.csdl.specs.Path.{Segment, segment_at, step_at, resolves_at, end_of, same_segment, same_segments, segments_of, holders, path_of, start_of, path_end}
use Rattle.csdl.specs.Path.Segment.{name, cast}
use Rattle.csdl.specs.declared.PathKind.{PathKind}
use Rattle.csdl.specs.declared.PathKind.TheVariants.{Binding, Target}
use Rattle.csdl.specs.Form.{rule4}
use Rattle.csdl.specs.Paths.{rule14, non_containment, binding19a, binding19b, binding19c, binding19d, binding19e, binding19f, binding19g, binding19h, binding19}
use Rattle.csdl.specs.Verdict.{step_code}
use Rattle.csdl.specs.Accepted.{Kept}
use Rattle.csdl.proofs.Logic.{any_same, equal_or_not}
use Rattle.name_classes.specs.Classes.{Ranked}
use Rattle.name_classes.proofs.Ranks.{small, same_class}
use Rattle.path_resolution.specs.Resolution.{prefix, step_no, code_at}
use Rattle.path_resolution.specs.Coded.{Coded}
use Rattle.path_resolution.proofs.Reading.{cast_steps, target_steps, binding_steps, end_steps}
use Rattle.path_resolution.proofs.Runs.{run_codes}
use Rattle.path_steps.proofs.Named.{name_step, resolves-there}
use Rattle.rules_bindings.specs.Runs.{path_run, run_end}
use Rattle.rules_bindings.specs.Bindings.{binding_codes, class_of, class_at, again_bound, binding_again, target_codes, ends_apart, binding_coded}
use Rattle.rules_bindings.proofs.Comparing.{same_counts, same-each}

-- Segments that resolve are the same where their codes are of one class.
module _ (m : Model) (few : m.properties ≤ 512) (firsts : ℕ) (index : List ℕ) (ranked : Ranked (λ p. property_text m p) m.properties firsts index) where
  cast_class : (c : ℕ) → class_of index (32768 + c) ≡ 32768 + c
  unfolding class_of
  cast_class c = rw (le-ltb (32768 + c) 512 (omega arith))

  property_class : (p : ℕ) → p < m.properties → class_of index p ≡ get_or index (512 + p) 0
  unfolding class_of
  property_class p h = rw (lt-ltb p 512 (omega arith))

  casts_same : (c d : ℕ) → eqb (32768 + c) (32768 + d) ≡ eqb c d
  casts_same c d =
      equal_or_not c d (λ e. eq-eqb (32768 + c) (32768 + d) (ap (λ x. 32768 + x) e) ∙ sym (eq-eqb c d e)) (λ n. ne_eqb (32768 + c) (32768 + d) (λ e. n (omega arith)) ∙ sym (ne_eqb c d n))

  class_same : (t u : ℕ) (g h : Segment) → resolves_at m t g ≡ true → resolves_at m u h ≡ true
      → eqb (class_of index (step_code (step_at m t g))) (class_of index (step_code (step_at m u h))) ≡ same_segment g h
  unfolding step_at
  class_same t u (name x) (name y) e f =
      let a = name_step m t x e in
      let b = name_step m u y f in
      rw (a.1, b.1, property_class a.0 a.2, property_class b.0 b.2) (same_class (λ p. property_text m p) m.properties firsts index ranked a.0 b.0 a.2 b.2 ∙ ap₂ same a.3 b.3)
  class_same t u (name x) (cast d) e f =
      let a = name_step m t x e in
      rw (a.1, property_class a.0 a.2, cast_class d) (ne_eqb (get_or index (512 + a.0) 0) (32768 + d) (λ z. omega (arith, small (λ p. property_text m p) m.properties firsts index ranked a.0 a.2, few, z)))
  class_same t u (cast c) (name y) e f =
      let b = name_step m u y f in
      rw (b.1, property_class b.0 b.2, cast_class c) (ne_eqb (32768 + c) (get_or index (512 + b.0) 0) (λ z. omega (arith, small (λ p. property_text m p) m.properties firsts index ranked b.0 b.2, few, z)))
  class_same t u (cast c) (cast d) e f = rw (cast_class c, cast_class d) (casts_same c d)

  -- 19d
  module _ (codes : List ℕ) (table : Coded m codes) (kept4 : Kept m rule4) (kept14 : Kept m rule14) where
    class_at_lem : (b k : ℕ) → b < m.bindings → k < (m.binding_path b).count
        → (t : ℕ) × (resolves_at m t (segment_at m ((m.binding_path b).first + k)) ≡ true) × (class_at m index codes b k ≡ class_of index (step_code (step_at m t (segment_at m ((m.binding_path b).first + k)))))
    unfolding holders path_of code_at step_no
    class_at_lem b k there h =
        (end_of m (start_of m Binding b) (prefix m (m.binding_path b).first k), resolves-there m kept4 kept14 Binding b k there h, ap (λ c. class_of index c) (table.code Binding b k there h))

    segment_same : (j b k : ℕ) → j < m.bindings → b < m.bindings → k < (m.binding_path j).count → k < (m.binding_path b).count
        → eqb (class_at m index codes j k) (class_at m index codes b k) ≡ same_segment (segment_at m ((m.binding_path j).first + k)) (segment_at m ((m.binding_path b).first + k))
    segment_same j b k hj hb lj lb =
        let x = class_at_lem j k hj lj in
        let y = class_at_lem b k hb lb in
        rw (x.2, y.2) (class_same x.0 y.0 _ _ x.1 y.1)

    again_same : (j b : ℕ) → j < m.bindings → b < m.bindings
        → again_bound m index codes j b ≡ (eqb (m.binding_child j) (m.binding_child b) && same_segments (segments_of m (m.binding_path j)) (segments_of m (m.binding_path b)))
    unfolding again_bound
    again_same j b hj hb =
        equal_or_not (m.binding_path j).count (m.binding_path b).count
        (λ e.
        rw (eq-eqb _ _ e, e, and-true, same-each (λ g. segment_at m g) (m.binding_path j).first (m.binding_path b).first (m.binding_path b).count)
        (ap (λ x. eqb (m.binding_child j) (m.binding_child b) && not x)
        (any_same _ _ 0 (m.binding_path b).count (λ k p q. ap not (segment_same j b k hj hb (omega arith) (omega arith))))))
        (λ n. rw (ne_eqb _ _ n, same_counts (λ g. segment_at m g) _ _ _ _ n, and-false))

    pub again_coded : (b : ℕ) → b < m.bindings → binding_again m index codes b ≡ binding19d m b
    unfolding binding_again binding19d
    again_coded b h = any_same _ _ 0 b (λ j p q. again_same j b (omega arith) h)

module _ (m : Model) (codes : List ℕ) (table : Coded m codes) (few : m.properties ≤ 32768) (short : (w : PathKind) (r : ℕ) → (path_of m w r).count < 16) where
  run_end_lem : (w : PathKind) (r : ℕ) → r < holders m w → run_end m codes w r ≡ path_end m w r
  run_end_lem w r h = end_steps m _ _ _ _ (run_codes m codes table w r h (short w r)) few

  -- 19a to 19c
  path_form : (b : ℕ) → b < holders m Binding → binding_codes m (path_run m codes Binding b) (path_of m Binding b).count ≡ (binding19a m b || binding19b m b || binding19c m b)
  unfolding binding_codes
  path_form b h = binding_steps m _ _ _ _ (run_codes m codes table Binding b h (short Binding b)) few (λ p. non_containment m p)

  -- 19f, 19g
  target_form : (b : ℕ) → b < holders m Target → target_codes m (path_run m codes Target b) (path_of m Target b).count ≡ (binding19f m b || binding19g m b)
  unfolding target_codes
  target_form b h =
      let run = path_run m codes Target b in
      let coded = run_codes m codes table Target b h (short Target b) in
      ap₂ ◌||◌ (cast_steps m _ _ _ run coded few) (target_steps m _ _ _ run coded few)

-- Where rules 4 and 14 are unbroken.
module _ (m : Model) (codes : List ℕ) (table : Coded m codes) (few : m.properties ≤ 512) (short : (w : PathKind) (r : ℕ) → (path_of m w r).count < 16)
    (firsts : ℕ) (index : List ℕ) (ranked : Ranked (λ p. property_text m p) m.properties firsts index) (kept4 : Kept m rule4) (kept14 : Kept m rule14) where
  pub binding_coded_lem : (b : ℕ) → b < m.bindings → binding_coded m index codes b ≡ binding19 m b
  unfolding holders binding_coded binding19 ends_apart
  binding_coded_lem b h =
      let many : m.properties ≤ 32768 = omega arith in
      rw (path_form m codes table many short b h, again_coded m few firsts index ranked codes table kept4 kept14 b h, target_form m codes table many short b h, run_end_lem m codes table many short Binding b h, run_end_lem m codes table many short Target b h)
      (ap (λ i. i || binding19h m b) (sym (or_assoc (binding19a m b || binding19b m b || binding19c m b || binding19d m b || binding19e m b) (binding19f m b) (binding19g m b))))
