-- Where a path does not resolve, from what it resolves to.
use Prim.Native.Nat.{ℕ, ◌+◌, ◌-◌, ◌≤◌, ◌<◌}
use mathlib.Core.Path.{◌≡◌, refl}
use mathlib.Core.List.{List}
use mathlib.Core.Bool.{Bool, true, false, cond, not}
use native.Mathlib.Omega.{arith}
use lib.Dec.{leb}
use borrow.Author.Tests.{le-leb, lt-leb, leb-true, leb-false}
use Rattle.csdl.specs.Model.{Model, in_run}
use Rattle.csdl.specs.Path.{holders, path_of, start_of}
use Rattle.csdl.specs.declared.PathKind.{PathKind}
use Rattle.csdl.specs.Paths.{unresolved_in}
use Rattle.csdl.proofs.Logic.{run_in, in_run_lem}
use Rattle.path_resolution.specs.Resolution.{ResolvedTo}
use Rattle.rules_segments.specs.Lowest.{Lowest}
use Rattle.rules_segments.specs.Kept.{RunKept, Resolvable, PathStep}
use Rattle.rules_segments.proofs.Keeping.{path_step}

module _ (m : Model) (w : PathKind) (r : ℕ) (codes : List ℕ) (taken end : ℕ) (t : ResolvedTo m (start_of m w r) (path_of m w r).first (path_of m w r).count codes taken end) where
  out : (g : ℕ) → in_run (path_of m w r) g ≡ false → unresolved_in m w g r ≡ false
  unfolding unresolved_in
  out g e = rw e

  within : (g : ℕ) (b : Bool) → in_run (path_of m w r) g ≡ true → leb (g + 1 - (path_of m w r).first) taken ≡ b → unresolved_in m w g r ≡ not b
  unfolding unresolved_in
  within g b e h =
      let p = run_in (path_of m w r) g e in
      rw (e, t.reach (g + 1 - (path_of m w r).first) (omega arith), h)

  pub unresolved-below : (g : ℕ) → g < (path_of m w r).first + taken → unresolved_in m w g r ≡ false
  unresolved-below g h = go (in_run (path_of m w r) g) refl
    where
      go : (b : Bool) → in_run (path_of m w r) g ≡ b → unresolved_in m w g r ≡ false
      go true e = within g true e (le-leb (g + 1 - (path_of m w r).first) taken (omega arith))
      go false e = out g e

  pub unresolved_never : (path_of m w r).count ≤ taken → (g : ℕ) → unresolved_in m w g r ≡ false
  unresolved_never h g = go (in_run (path_of m w r) g) refl
    where
      go : (b : Bool) → in_run (path_of m w r) g ≡ b → unresolved_in m w g r ≡ false
      go true e =
          let p = run_in (path_of m w r) g e in
          within g true e (le-leb (g + 1 - (path_of m w r).first) taken (omega arith))
      go false e = out g e

  pub unresolved-here : taken < (path_of m w r).count → unresolved_in m w ((path_of m w r).first + taken) r ≡ true
  unresolved-here h =
      within ((path_of m w r).first + taken) false
      (in_run_lem (path_of m w r) ((path_of m w r).first + taken) (omega arith) (omega arith))
      (lt-leb ((path_of m w r).first + taken + 1 - (path_of m w r).first) taken (omega arith))

  -- The lowest number below `bound` at which the path does not resolve.
  pub lowest_here : (bound : ℕ) → taken < (path_of m w r).count → (path_of m w r).first + taken < bound → Lowest (λ g. unresolved_in m w g r) bound ((path_of m w r).first + taken)
  lowest_here bound h l = record { most = omega arith; below = λ g k. unresolved-below g k; hit = λ k. unresolved-here h }

  pub lowest_later : (bound : ℕ) → bound ≤ (path_of m w r).first + taken → Lowest (λ g. unresolved_in m w g r) bound bound
  lowest_later bound l = record { most = omega arith; below = λ g k. unresolved-below g (omega arith); hit = λ k. absurd (omega arith) }

  pub lowest_never : (bound : ℕ) → (path_of m w r).count ≤ taken → Lowest (λ g. unresolved_in m w g r) bound bound
  lowest_never bound h = record { most = omega arith; below = λ g k. unresolved_never h g; hit = λ k. absurd (omega arith) }

-- The same from what the functions that read the path and its start, and resolve it, ensure.
module _ (m : Model) (w : PathKind) (r start first count taken end : ℕ) (codes : List ℕ) (es : start ≡ start_of m w r) (first-is : first ≡ (path_of m w r).first)
    (count-is : count ≡ (path_of m w r).count) (t : ResolvedTo m start first count codes taken end) where
  whole : ResolvedTo m (start_of m w r) (path_of m w r).first (path_of m w r).count codes taken end
  whole = rw (← es, ← first-is, ← count-is) t

  -- The same as the code finds it.
  pub path_lowest : (bound : ℕ) → Lowest (λ g. unresolved_in m w g r) bound (cond (leb count taken) bound (cond (leb bound (first + taken)) bound (first + taken)))
  path_lowest bound = go (leb count taken) refl (leb bound (first + taken)) refl
    where
      go : (a : Bool) → leb count taken ≡ a → (b : Bool) → leb bound (first + taken) ≡ b → Lowest (λ g. unresolved_in m w g r) bound (cond a bound (cond b bound (first + taken)))
      go true e b f = lowest_never m w r codes taken end whole bound (omega (arith, count-is, leb-true count taken e))
      go false e true f = lowest_later m w r codes taken end whole bound (omega (arith, first-is, leb-true bound (first + taken) f))
      go false e false f =
          rw first-is
          (lowest_here m w r codes taken end whole bound (omega (arith, count-is, leb-false count taken e)) (omega (arith, first-is, leb-false bound (first + taken) f)))

  -- Its codes have room, and kept they are those of the path.
  module _ (fit : Resolvable m) (there : r < holders m w) where
    pub run_room : first + count ≤ m.segments
    run_room = rw (first-is, count-is) (fit.in_table w r there)

  pub run_step : (before kept : List ℕ) → RunKept codes first count before kept → PathStep m w r before kept
  run_step before kept s = path_step m w r taken end codes before kept whole (rw (first-is, count-is) at s)
