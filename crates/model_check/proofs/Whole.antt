-- The bytes of the codes of a model that keeps the rules are its resolution. Assumes nothing.
use Prim.Native.Nat.{ℕ, zero, suc, ◌+◌, ◌-◌, ◌≤◌, ◌<◌}
use mathlib.Core.Path.{◌≡◌, refl, sym, ap, subst, ◌∙◌}
use mathlib.Core.List.{List}
use mathlib.Core.Bool.{Bool, true, false, cond}
use native.Mathlib.Omega.{arith}
use native.Mathlib.Nat.{mod-eq_of_lt}
use lib.ListN.{get_or}
use Rattle.csdl.specs.Search.{flat, tab, if_found}
use Rattle.csdl.specs.Model.{Model, text, in_run}
use Rattle.csdl.specs.Path.{holders, path_of, start_of, step_in, step_of_segment, step_at, segment_at, end_of}
use Rattle.csdl.specs.declared.PathKind.{PathKind}
use Rattle.csdl.specs.Find.{find}
use Rattle.csdl.specs.Path.Segment.{name, cast}
use Rattle.csdl.specs.Path.Step.{property, nothing}
use Rattle.csdl.specs.Verdict.{step_code, bytes_of, resolution}
use Rattle.csdl.proofs.Logic.{run_in}
use Rattle.csdl.proofs.Segments.{its_step, its_path}
use Rattle.path_resolution.specs.Resolution.{prefix, code_at, step_no}
use Rattle.path_resolution.specs.Coded.{Coded}
use Rattle.path_resolution.proofs.Reading.{find-le}
use Rattle.rules_segments.specs.Kept.{Resolvable}
use Rattle.path_resolution.specs.Written.{code_of, code_bytes}

of_cast : (m : Model) (t c : ℕ) → c < 32768 → step_code (step_at m t (cast c)) < 65536
unfolding step_at
of_cast m t c h = omega arith

of_name : (m : Model) (t : ℕ) (x : List ℕ) → m.properties ≤ 32768 → step_code (step_at m t (name x)) < 65536
unfolding step_at
of_name m t x h = go (find m x t) refl
  where
    go : (f : ℕ) → find m x t ≡ f → step_code (if_found nothing (λ p. property p) f) < 65536
    go zero e = omega arith
    go (suc p) e = omega (arith, find-le m x t)

-- The code of a segment fits 16 bits.
code-small : (m : Model) → Resolvable m → (t g : ℕ) → g < m.segments → step_code (step_at m t (segment_at m g)) < 65536
unfolding segment_at
code-small m fit t g l = go (m.is_cast g) refl
  where
    go : (b : Bool) → m.is_cast g ≡ b → step_code (step_at m t (cond b (cast (m.cast_type g)) (name (text m (m.segment_name g))))) < 65536
    go true e = of_cast m t (m.cast_type g) (fit.casts_small g l e)
    go false e = of_name m t (text m (m.segment_name g)) fit.few

-- Each segment has the code of what it resolves to, in 16 bits.
module _ (m : Model) (fit : Resolvable m) (codes : List ℕ) (p : Coded m codes) (g : ℕ) (l : g < m.segments) where
  of_record : (w : PathKind) (r : ℕ) → r < holders m w → in_run (path_of m w r) g ≡ true → code_of codes g ≡ step_code (step_in m w r g)
  unfolding step_in code_at step_no
  of_record w r h i =
      let q = run_in (path_of m w r) g i in
      let e : (path_of m w r).first + (g - (path_of m w r).first) ≡ g = omega arith in
      let c : get_or codes g 0 ≡ step_code (step_in m w r g) =
      subst (λ (x : ℕ). get_or codes x 0 ≡ step_code (step_at m (end_of m (start_of m w r) (prefix m (path_of m w r).first (g - (path_of m w r).first))) (segment_at m x))) e
      (p.code w r (g - (path_of m w r).first) h (omega arith)) in
      rw c (mod-eq_of_lt (code-small m fit (end_of m (start_of m w r) (prefix m (path_of m w r).first (g - (path_of m w r).first))) g l))

  each-code : code_of codes g ≡ step_code (step_of_segment m g)
  each-code =
      let once = fit.once g l in
      let s = its_path m g once in
      of_record s.0 s.1 s.2 s.3 ∙ ap step_code (sym (its_step m g once s.0 s.1 s.2 s.3))

-- The bytes of equal numbers are equal.
same_bytes : (f h : ℕ → ℕ) (i n : ℕ) → ((g : ℕ) → i ≤ g → g < i + n → f g ≡ h g) → flat (λ g. bytes_of (f g)) (tab (λ g. g) i n) ≡ flat (λ g. bytes_of (h g)) (tab (λ g. g) i n)
unfolding flat tab
same_bytes f h i zero e = refl
same_bytes f h i (suc n) e = rw (e i (omega arith) (omega arith), same_bytes f h (i + 1) n (λ g a b. e g (omega arith) (omega arith)))

pub codes_resolution : (m : Model) → Resolvable m → (codes : List ℕ) → Coded m codes → code_bytes codes m.segments ≡ resolution m
unfolding code_bytes resolution
codes_resolution m fit codes p = same_bytes _ _ 0 m.segments (λ g a b. each-code m fit codes p g (omega arith))
