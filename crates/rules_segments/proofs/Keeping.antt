-- The codes of the segments kept path by path, kind by kind. Assumes nothing.
use Prim.Native.Nat.{ℕ, ◌+◌, ◌-◌, ◌≤◌, ◌<◌}
use mathlib.Core.Path.{◌≡◌, refl, sym, ap, subst, ◌∙◌}
use mathlib.Core.List.{List, ◌++◌}
use mathlib.Core.Bool.{Bool, true, false, false≢true}
use mathlib.Core.Logic.{◌⊎◌, inl, inr, ⊎_elim}
use native.Mathlib.Omega.{arith}
use lib.ListN.{length, get_or, take, drop}
use Rattle.std.proofs.lemmas.List.{length-append, length-take-le, length-drop, get_or_append_left, get_or-append_right, get_or-take, get_or-drop}
use lib.Dec.{ltb}
use borrow.Author.Tests.{ltb-true, ltb-false}
use Rattle.csdl.specs.Model.{Model, in_run}
use Rattle.csdl.specs.Path.{kinds, holders, path_of, start_of, step_in}
use Rattle.csdl.specs.declared.PathKind.{PathKind}
use Rattle.csdl.specs.declared.PathKind.TheVariants.{Partner, Key, Dependent, Principal, Binding, Target}
use Rattle.csdl.specs.Verdict.{step_code}
use Rattle.csdl.proofs.Logic.{true-false, not_so, run_in, in_run_lem}
use Rattle.csdl.proofs.Segments.{only-path}
use Rattle.path_resolution.specs.Resolution.{ResolvedTo, code_at, step_no}
use Rattle.path_resolution.specs.Coded.{Coded}
use Rattle.rules_segments.specs.Kept.{RunKept, Resolvable, PathKept, PathStep, KindStep, Progress, PastKept}
use Rattle.rules_segments.proofs.Least.{empty_run}

-- ---- a run of codes, copied to its place
pub run_copied : (run before : List ℕ) (first count : ℕ) → count ≤ length run → first + count ≤ length before
    → RunKept run first count before (take first before ++ (take count run ++ drop (first + count) before))
run_copied run before first count enough room = record { same_length = all; codes_at = inside; others = λ g h. ⊎_elim (earlier g) (later g) h }
  where
    n : length (take first before) ≡ first
    n = length-take-le first before (omega arith)

    k : length (take count run) ≡ count
    k = length-take-le count run enough

    all : length (take first before ++ (take count run ++ drop (first + count) before)) ≡ length before
    all = simp (length-append, length-drop) (omega (arith, n, k))

    inside : (i : ℕ) → i < count → get_or (take first before ++ (take count run ++ drop (first + count) before)) (first + i) 0 ≡ get_or run i 0
    inside i h =
        let e : first + i - first ≡ i = omega arith in
        get_or-append_right (take first before) (take count run ++ drop (first + count) before) first (first + i) 0 n (omega arith)
        ∙ rw e (get_or_append_left (take count run) (drop (first + count) before) 0 i (omega (arith, k)) ∙ get_or-take count run i 0 h)

    earlier : (g : ℕ) → g < first → get_or (take first before ++ (take count run ++ drop (first + count) before)) g 0 ≡ get_or before g 0
    earlier g h = get_or_append_left (take first before) (take count run ++ drop (first + count) before) 0 g (omega (arith, n)) ∙ get_or-take first before g 0 h

    later : (g : ℕ) → first + count ≤ g → get_or (take first before ++ (take count run ++ drop (first + count) before)) g 0 ≡ get_or before g 0
    later g h =
        let e : first + count + (g - first - count) ≡ g = omega arith in
        get_or-append_right (take first before) (take count run ++ drop (first + count) before) first g 0 n (omega arith)
        ∙ get_or-append_right (take count run) (drop (first + count) before) count (g - first) 0 k (omega arith)
        ∙ get_or-drop (first + count) before (g - first - count) 0
        ∙ ap (λ (i : ℕ). get_or before i 0) e

-- ---- a kept run of codes is a kept path
module _ (m : Model) (w : PathKind) (r taken end : ℕ) (run before codes : List ℕ)
    (t : ResolvedTo m (start_of m w r) (path_of m w r).first (path_of m w r).count run taken end)
    (s : RunKept run (path_of m w r).first (path_of m w r).count before codes) where
  code_in : (g k : ℕ) → (path_of m w r).first + k ≡ g → k < (path_of m w r).count → get_or run k 0 ≡ step_code (step_in m w r g)
  unfolding step_in code_at step_no
  code_in g k e h =
      let d : g - (path_of m w r).first ≡ k = omega arith in
      t.code k h ∙ rw (d, e)

  kept : PathKept m w r codes
  kept g h =
      let p = run_in (path_of m w r) g h in
      let e : (path_of m w r).first + (g - (path_of m w r).first) ≡ g = omega arith in
      let l : g - (path_of m w r).first < (path_of m w r).count = omega arith in
      subst (λ (x : ℕ). get_or codes x 0 ≡ step_code (step_in m w r g)) e (s.codes_at (g - (path_of m w r).first) l ∙ code_in g (g - (path_of m w r).first) e l)

  outside : (g : ℕ) → in_run (path_of m w r) g ≡ false → (g < (path_of m w r).first) ⊎ ((path_of m w r).first + (path_of m w r).count ≤ g)
  outside g h = go (ltb g (path_of m w r).first) refl (ltb g ((path_of m w r).first + (path_of m w r).count)) refl
    where
      go : (a : Bool) → ltb g (path_of m w r).first ≡ a → (b : Bool) → ltb g ((path_of m w r).first + (path_of m w r).count) ≡ b → (g < (path_of m w r).first) ⊎ ((path_of m w r).first + (path_of m w r).count ≤ g)
      go true e b f = inl (ltb-true g (path_of m w r).first e)
      go false e false f = inr (ltb-false g ((path_of m w r).first + (path_of m w r).count) f)
      go false e true f = true-false (in_run (path_of m w r) g) (in_run_lem (path_of m w r) g (ltb-false g (path_of m w r).first e) (ltb-true g ((path_of m w r).first + (path_of m w r).count) f)) h

  pub path_step : PathStep m w r before codes
  path_step = record { same_length = s.same_length; kept = kept; others = λ g h. s.others g (outside g h) }

-- A path of no segments, of which there is nothing to keep.
pub nothing-kept : (m : Model) (w : PathKind) (r : ℕ) (codes : List ℕ) → (path_of m w r).count ≡ 0 → PathStep m w r codes codes
nothing-kept m w r codes h = record {
  same_length = refl;
  kept = λ g i. absurd (false≢true (sym (empty_run (path_of m w r) g h) ∙ i));
  others = λ g i. refl;
}

-- ---- one path more: no segment is in two paths, so those that have their codes keep them
module _ (m : Model) (fit : Resolvable m) (w : PathKind) (r : ℕ) (there : r < holders m w) (codes after : List ℕ) (s : PathStep m w r codes after) where
  still_kept : (x : PathKind) (y : ℕ) → y < holders m x → PathKept m x y codes → PathKept m x y after
  still_kept x y l p g i = go (in_run (path_of m w r) g) refl
    where
      go : (b : Bool) → in_run (path_of m w r) g ≡ b → get_or after g 0 ≡ step_code (step_in m x y g)
      go true e =
          let q = run_in (path_of m w r) g e in
          let o = only-path m g (fit.once g (omega (arith, fit.in_table w r there))) w r there e x y l i in
          rw (o.0, o.1) (s.kept g e)
      go false e = s.others g e ∙ p g i

  pub kind-more : (before : List ℕ) → KindStep m w r before codes → KindStep m w (r + 1) before after
  kind-more before k = record { kept = λ y h. go y h (ltb y r) refl; stays = λ x y l p. still_kept x y l (k.stays x y l p) }
    where
      go : (y : ℕ) → y < r + 1 → (b : Bool) → ltb y r ≡ b → PathKept m w y after
      go y h true e = still_kept w y (omega (arith, there, ltb-true y r e)) (k.kept y (ltb-true y r e))
      go y h false e = let q : y ≡ r = omega (arith, h, ltb-false y r e) in subst (λ (x : ℕ). PathKept m w x after) (sym q) s.kept

  -- The path has no segment past the table.
  pub path_past : PastKept m codes after
  path_past g h = s.others g (not_so _ (λ e. let q = run_in (path_of m w r) g e in absurd (omega (arith, fit.in_table w r there, h))))

pub kind-start : (m : Model) (w : PathKind) (codes : List ℕ) → KindStep m w 0 codes codes
kind-start m w codes = record { kept = λ r h. absurd (omega arith); stays = λ x r l p. p }

-- ---- one kind more
pub progress_start : (m : Model) (codes : List ℕ) → Progress m codes 0
progress_start m codes k r h l = absurd (omega arith)

pub progress_more : (m : Model) (codes after : List ℕ) (n : ℕ) → Progress m codes n
    → KindStep m (get_or kinds n Partner) (holders m (get_or kinds n Partner)) codes after → Progress m after (n + 1)
progress_more m codes after n p s k r h l = go (ltb k n) refl
  where
    go : (b : Bool) → ltb k n ≡ b → PathKept m (get_or kinds k Partner) r after
    go true f = s.stays (get_or kinds k Partner) r l (p k r (ltb-true k n f) l)
    go false f =
        let q : k ≡ n = omega (arith, h, ltb-false k n f) in
        subst (λ (j : ℕ). r < holders m (get_or kinds j Partner) → PathKept m (get_or kinds j Partner) r after) (sym q) (s.kept r) l

-- ---- with all kinds kept, every path has its codes
module _ (m : Model) (codes : List ℕ) (p : Progress m codes 6) where
  of_number : (n r k : ℕ) → n < 6 → r < holders m (get_or kinds n Partner) → k < (path_of m (get_or kinds n Partner) r).count
      → get_or codes ((path_of m (get_or kinds n Partner) r).first + k) 0 ≡ code_at m (start_of m (get_or kinds n Partner) r) (path_of m (get_or kinds n Partner) r).first k
  unfolding step_in code_at step_no
  of_number n r k l h i =
      let f = (path_of m (get_or kinds n Partner) r).first in
      let e : (path_of m (get_or kinds n Partner) r).first + k - (path_of m (get_or kinds n Partner) r).first ≡ k = omega arith in
      p n r l h ((path_of m (get_or kinds n Partner) r).first + k) (in_run_lem (path_of m (get_or kinds n Partner) r) ((path_of m (get_or kinds n Partner) r).first + k) (omega arith) (omega arith)) ∙ rw e

  of_kind_lem : (w : PathKind) (r k : ℕ) → r < holders m w → k < (path_of m w r).count → get_or codes ((path_of m w r).first + k) 0 ≡ code_at m (start_of m w r) (path_of m w r).first k
  of_kind_lem Partner r k h i = of_number 0 r k (omega arith) h i
  of_kind_lem Key r k h i = of_number 1 r k (omega arith) h i
  of_kind_lem Dependent r k h i = of_number 2 r k (omega arith) h i
  of_kind_lem Principal r k h i = of_number 3 r k (omega arith) h i
  of_kind_lem Binding r k h i = of_number 4 r k (omega arith) h i
  of_kind_lem Target r k h i = of_number 5 r k (omega arith) h i

  pub all_coded : Coded m codes
  all_coded = record { code = of_kind_lem }
