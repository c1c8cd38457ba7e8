-- What a segment resolves to: under rule 13 each segment is of one path, and its step is that path's step at its number.
use Prim.Native.Nat.{ℕ, zero, suc, ◌+◌, ◌-◌, ◌≤◌, ◌<◌, zero-le}
use mathlib.Core.Path.{◌≡◌, refl, sym, ap, ◌∙◌}
use mathlib.Core.Bool.{Bool, true, false}
use native.Mathlib.Omega.{arith}
use lib.ListN.{get_or}
use lib.Dec.{eqb, ltb}
use borrow.Author.Tests.{eqb-true, ltb-true, ltb-false, not-false}
use Rattle.csdl.specs.Search.{one_if, tab, sum_of}
use Rattle.csdl.specs.Model.{Model, in_run}
use Rattle.csdl.specs.Path.{Segment, Step, along, along_end, holders, path_of, path_steps, kinds, kind_paths_with, paths_with, holder_of, step_in, by_holder, step_of_segment}
use Rattle.csdl.specs.declared.PathKind.{PathKind}
use Rattle.csdl.specs.Path.Step.{nothing}
use Rattle.csdl.specs.declared.PathKind.TheVariants.{Partner, Key, Dependent, Principal, Binding, Target}
use Rattle.csdl.specs.Paths.{segment13}
use Rattle.csdl.proofs.Logic.{first_of, first_found, none_first, term_le, at_most_one, some_found}

-- The k-th of what is made of the segments is made of the k-th segment at the type that the k before it lead to.
along-at : (what : ℕ → Segment → Step) (to : ℕ → Segment → ℕ) (f : ℕ → Segment) (d : Step) (t i n k : ℕ) → k < n →
    get_or (along what to t (tab f i n)) k d ≡ what (along_end to t (tab f i k)) (f (i + k))
unfolding along along_end tab
along-at what to f d t i zero k h = absurd (omega arith)
along-at what to f d t i (suc n) zero h = let e : i + 0 ≡ i = omega arith in rw e
along-at what to f d t i (suc n) (suc k) h =
    let e : i + suc k ≡ i + 1 + k = omega arith in rw e (along-at what to f d (to t (f i)) (i + 1) n k (omega arith))

module _ (m : Model) where
  -- A segment of a record's path resolves, as one of that path, to the path's step at its number.
  pub step_in_path : (w : PathKind) (r k : ℕ) → k < (path_of m w r).count → step_in m w r ((path_of m w r).first + k) ≡ get_or (path_steps m w r) k nothing
  unfolding step_in
  step_in_path w r k h =
      let e : (path_of m w r).first + k - (path_of m w r).first ≡ k = omega arith in
      rw (e, along-at _ _ _ nothing _ (path_of m w r).first (path_of m w r).count k h)

  module _ (g : ℕ) where
    abbrev has : PathKind → ℕ → Bool
    has w r = in_run (path_of m w r) g

    none_with : (w : PathKind) → kind_paths_with m w g ≡ 0 → holder_of m w g ≡ 0
    unfolding kind_paths_with holder_of
    none_with w e = none_first (has w) 0 (holders m w) (λ r a b. go r a b (has w r) refl)
      where
        go : (r : ℕ) → 0 ≤ r → r < 0 + holders m w → (b : Bool) → has w r ≡ b → has w r ≡ false
        go r a l true q = let o : one_if (has w r) ≡ 1 = rw q in absurd (omega (arith, term_le (λ x. one_if (has w x)) r 0 (holders m w) a l))
        go r a l false q = q

    some_with : (w : PathKind) (r : ℕ) → r < holders m w → has w r ≡ true → 1 ≤ kind_paths_with m w g
    unfolding kind_paths_with
    some_with w r l e = let o : one_if (has w r) ≡ 1 = rw e in omega (arith, term_le (λ x. one_if (has w x)) r 0 (holders m w) zero-le (omega arith))

    one_with : (w : PathKind) (r : ℕ) → kind_paths_with m w g ≤ 1 → r < holders m w → has w r ≡ true → holder_of m w g ≡ suc r
    unfolding kind_paths_with holder_of
    one_with w r few l e =
        let f = first_of (has w) 0 (holders m w) r zero-le (omega arith) e in
        let p = first_found (has w) 0 (holders m w) f.0 f.1 in
        f.1 ∙ ap suc (at_most_one (has w) (holders m w) f.0 r few (omega arith) l p.2 e)

    module _ (once : segment13 m g ≡ false) where
      total : kind_paths_with m Partner g + kind_paths_with m Key g + kind_paths_with m Dependent g + kind_paths_with m Principal g + kind_paths_with m Binding g + kind_paths_with m Target g ≡ 1
      unfolding segment13 paths_with sum_of
      total = omega (arith, eqb-true (paths_with m g) 1 (not-false (eqb (paths_with m g) 1) once))

      -- So what is made of the first kind and record that have the segment is made of any that has it.
      by_holder_lem : {A : Type 0} (f : PathKind → ℕ → A) (d : A) (w : PathKind) (r : ℕ) → r < holders m w → has w r ≡ true → by_holder m g f d kinds ≡ f w r
      unfolding by_holder
      by_holder_lem f d Partner r l e =
          let s = some_with Partner r l e in rw (one_with Partner r (omega (arith, total)) l e)
      by_holder_lem f d Key r l e =
          let s = some_with Key r l e in
          rw (none_with Partner (omega (arith, total)), one_with Key r (omega (arith, total)) l e)
      by_holder_lem f d Dependent r l e =
          let s = some_with Dependent r l e in
          rw (none_with Partner (omega (arith, total)), none_with Key (omega (arith, total)), one_with Dependent r (omega (arith, total)) l e)
      by_holder_lem f d Principal r l e =
          let s = some_with Principal r l e in
          rw (
            none_with Partner (omega (arith, total)),
            none_with Key (omega (arith, total)),
            none_with Dependent (omega (arith, total)),
            one_with Principal r (omega (arith, total)) l e,
          )
      by_holder_lem f d Binding r l e =
          let s = some_with Binding r l e in
          rw (
            none_with Partner (omega (arith, total)),
            none_with Key (omega (arith, total)),
            none_with Dependent (omega (arith, total)),
            none_with Principal (omega (arith, total)),
            one_with Binding r (omega (arith, total)) l e,
          )
      by_holder_lem f d Target r l e =
          let s = some_with Target r l e in
          rw (
            none_with Partner (omega (arith, total)),
            none_with Key (omega (arith, total)),
            none_with Dependent (omega (arith, total)),
            none_with Principal (omega (arith, total)),
            none_with Binding (omega (arith, total)),
            one_with Target r (omega (arith, total)) l e,
          )

      -- What the segment resolves to is what it resolves to in the path that has it.
      pub its_step : (w : PathKind) (r : ℕ) → r < holders m w → has w r ≡ true → step_of_segment m g ≡ step_in m w r g
      unfolding step_of_segment
      its_step w r l e = by_holder_lem (λ x y. step_in m x y g) nothing w r l e

      -- One path has it: two that do are of one kind and one record.
      pub only-path : (w : PathKind) (r : ℕ) → r < holders m w → has w r ≡ true → (x : PathKind) (y : ℕ) → y < holders m x → has x y ≡ true → (x ≡ w) × (y ≡ r)
      only-path w r l e x y k h = (
        sym (by_holder_lem (λ a b. a) Partner x y k h) ∙ by_holder_lem (λ a b. a) Partner w r l e,
        sym (by_holder_lem (λ a b. b) 0 x y k h) ∙ by_holder_lem (λ a b. b) 0 w r l e,
      )

      -- And some path has it.
      abbrev InPath : Type 0
      InPath = (w : PathKind) × (r : ℕ) × (r < holders m w) × (has w r ≡ true)

      of_kind_lem : (w : PathKind) → (kind_paths_with m w g ≡ 0 → InPath) → InPath
      unfolding kind_paths_with
      of_kind_lem w other = go (ltb 0 (kind_paths_with m w g)) refl
        where
          go : (b : Bool) → ltb 0 (kind_paths_with m w g) ≡ b → InPath
          go true q = let s = some_found (has w) 0 (holders m w) (ltb-true 0 (kind_paths_with m w g) q) in (w, s.0, omega arith, s.3)
          go false q = other (omega (arith, ltb-false 0 (kind_paths_with m w g) q))

      pub its_path : InPath
      its_path =
          of_kind_lem Partner (λ a. of_kind_lem Key (λ b. of_kind_lem Dependent (λ c. of_kind_lem Principal (λ d. of_kind_lem Binding (λ e. of_kind_lem Target (λ f.
          absurd (omega (arith, total))))))))
