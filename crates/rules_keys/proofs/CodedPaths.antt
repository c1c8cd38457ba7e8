-- Rules 15 and 16 by the codes of all segments, as those of the definition. Assumes nothing.
use Prim.Native.Nat.{ℕ, zero, suc, ◌+◌, ◌≤◌, ◌<◌}
use mathlib.Core.Path.{◌≡◌, refl, sym, ap, ap₂, ◌∙◌}
use mathlib.Core.List.{List, [], ◌∷◌}
use mathlib.Core.Bool.{true, false, false≢true, cond, ◌&&◌, ◌||◌, or_assoc}
use native.Mathlib.Nat.{add-zero}
use native.Mathlib.Omega.{arith}
use lib.Dec.{eqb, eqb-suc-zero}
use lib.ListN.{get_or}
use borrow.Author.Tests.{le-leb, lt-leb}
use Rattle.packed.specs.Bytes.{same}
use Rattle.csdl.specs.Model.{Model, named, key_alias_text, property_text}
use Rattle.csdl.specs.Search.{tab, some, but_last}
use Rattle.csdl.specs.Path.{Segment, Step, segment_at, step_at, resolves_at, along_end, first_name, holders, path_of, start_of, path_steps, last_step, is_other}
use Rattle.csdl.specs.Path.Segment.{name, cast}
use Rattle.csdl.specs.declared.PathKind.{PathKind}
use Rattle.csdl.specs.Path.Step.{property, type, nothing}
use Rattle.csdl.specs.declared.PathKind.TheVariants.{Key, Dependent, Principal}
use Rattle.csdl.specs.Form.{rule4}
use Rattle.csdl.specs.Verdict.{step_code}
use Rattle.csdl.specs.Accepted.{Kept}
use Rattle.csdl.specs.Paths.{rule14, key_name, has_cast, key_step, key_end, key15a, key15b, key15c, key15d, key15e, key15f, key15g, key15h, key15, constraint_step, broken_inner, broken_end, constraint16a, constraint16b, constraint16e, constraint16f, constraint16}
use Rattle.csdl.proofs.Logic.{or_no, any_same}
use Rattle.path_resolution.specs.Resolution.{step_no, code_at, cast_code}
use Rattle.path_resolution.specs.Coded.{Coded, run_of}
use Rattle.path_resolution.proofs.Runs.{run_codes}
use Rattle.path_resolution.proofs.Reading.{cast_steps, other_steps, last_other, last_is, last_cast, last_number}
use Rattle.path_steps.proofs.Named.{name_step, resolves-there}
use Rattle.rules_keys.specs.Keys.{coded_name, again_named, named_again, key_codes, key_coded}
use Rattle.rules_keys.specs.Constraints.{constraint_ends, constraint_codes, constraint_fails, constraint_end, constraint_coded}
use Rattle.rules_keys.proofs.Orders.{end_broken, rest-same, two_paths}

module _ (m : Model) (codes : List ℕ) (coded : Coded m codes) (few : m.properties ≤ 32768) (short : (w : PathKind) (r : ℕ) → (path_of m w r).count < 16) where
  -- 15c to 15e
  path_coded : (k : ℕ) → k < m.keys → key_codes m codes k ≡ (key15c m k || (key15d m k || key15e m k))
  unfolding key_codes holders path_of key15c
  path_coded k there =
      let run = run_of codes (m.key_path k).first (m.key_path k).count in
      let at = run_codes m codes coded Key k there (short Key k) in
      ap₂ ◌||◌ (cast_steps m _ _ _ run at few)
      (ap₂ ◌||◌ (other_steps m _ _ _ run at few (λ x. key_step m x)) (last_other m _ _ _ run at few (λ x. key_end m x)))

  module _ (w : PathKind) (r : ℕ) (there : r < holders m w) where
    -- 16b to 16d of one path, and its last property
    fails_coded : constraint_fails m codes (path_of m w r) ≡ (has_cast (path_steps m w r) || (broken_inner m (path_steps m w r) || broken_end m (path_steps m w r)))
    unfolding constraint_fails constraint_codes broken_inner
    fails_coded =
        let run = run_of codes (path_of m w r).first (path_of m w r).count in
        let at = run_codes m codes coded w r there (short w r) in
        ap₂ ◌||◌
        (ap₂ ◌||◌ (cast_steps m _ _ _ run at few)
        (ap₂ ◌||◌ (other_steps m _ _ _ run at few (λ x. constraint_step m x)) (last_is m _ _ _ run at few (λ x. m.navigation x))))
        (last_cast m _ _ _ run at few)
        ∙ end_broken (has_cast (path_steps m w r)) (some (λ s. is_other (λ p. constraint_step m p) s) (but_last (path_steps m w r))) (λ p. m.navigation p) (last_step (path_steps m w r))

    end_coded : (p : ℕ) → last_step (path_steps m w r) ≡ property p → constraint_end codes (path_of m w r) ≡ p
    unfolding constraint_end
    end_coded = last_number m _ _ _ _ (run_codes m codes coded w r there (short w r)) few

  -- A path that 16d keeps ends in a property.
  ends_in : (l : List Step) → broken_end m l ≡ false → (p : ℕ) × (last_step l ≡ property p)
  ends_in l b = go (last_step l) refl
    where
      go : (s : Step) → last_step l ≡ s → (p : ℕ) × (last_step l ≡ property p)
      go (property p) e = (p, e)
      go (type c) e = absurd (false≢true (sym b ∙ rw e))
      go nothing e = absurd (false≢true (sym b ∙ rw e))

  -- 16a, 16e, 16f, where 16d keeps both paths
  ends_coded : (c : ℕ) → c < m.constraints → broken_end m (path_steps m Dependent c) ≡ false → broken_end m (path_steps m Principal c) ≡ false
      → constraint_ends m (m.constrained c) (constraint_end codes (m.dependent c)) (constraint_end codes (m.principal c)) ≡ (constraint16a m c || constraint16e m c || constraint16f m c)
  unfolding constraint_ends holders path_of
  ends_coded c there a b =
      let d = ends_in (path_steps m Dependent c) a in
      let r = ends_in (path_steps m Principal c) b in
      rw (end_coded Dependent c there d.0 d.1, end_coded Principal c there r.0 r.1, d.1, r.1)

  pub constraint_coded_lem : (c : ℕ) → c < m.constraints → constraint_coded m codes c ≡ constraint16 m c
  unfolding constraint_coded holders path_of constraint16 constraint16b
  constraint_coded_lem c there =
      let d = path_steps m Dependent c in
      let r = path_steps m Principal c in
      let inner = broken_inner m d in
      let other = broken_inner m r in
      rw (fails_coded Dependent c there, fails_coded Principal c there)
      (rest-same (has_cast d || (inner || broken_end m d)) (has_cast r || (other || broken_end m r)) _ (constraint16a m c || constraint16e m c || constraint16f m c)
      (λ a b. ends_coded c there (or_no inner (broken_end m d) (or_no (has_cast d) (inner || broken_end m d) a).1).1
      (or_no other (broken_end m r) (or_no (has_cast r) (other || broken_end m r) b).1).1)
      ∙ two_paths (constraint16a m c) (has_cast d) inner (broken_end m d) (has_cast r) other (broken_end m r) (constraint16e m c) (constraint16f m c))

-- Where rules 4 and 14 are unbroken, the property that a key's path begins with has the name that it begins with.
module _ (m : Model) (codes : List ℕ) (coded : Coded m codes) (few : m.properties ≤ 32768) (short : (w : PathKind) (r : ℕ) → (path_of m w r).count < 16) (kept4 : Kept m rule4) (kept14 : Kept m rule14) where
  begins : (t : ℕ) (g : Segment) (rest : List Segment) → resolves_at m t g ≡ true
      → cond (cast_code (step_code (step_at m t g))) [] (property_text m (step_code (step_at m t g))) ≡ first_name (g ∷ rest)
  unfolding step_at first_name
  begins t (name x) rest e = let a = name_step m t x e in rw (a.1, lt-leb 32768 a.0 (omega (arith, a.2))) a.3
  begins t (cast c) rest e = rw (le-leb 32768 (32768 + c) (omega arith))

  first_coded : (k : ℕ) → k < m.keys → 0 < (m.key_path k).count
      → (resolves_at m (m.key_owner k) (segment_at m (m.key_path k).first) ≡ true) × (get_or codes (m.key_path k).first 0 ≡ step_code (step_at m (m.key_owner k) (segment_at m (m.key_path k).first)))
  unfolding holders path_of start_of code_at step_no tab along_end
  first_coded k there h = (rw (add-zero (m.key_path k).first) at (resolves-there m kept4 kept14 Key k 0 there h), rw (add-zero (m.key_path k).first) at (coded.code Key k 0 there h))

  name_coded : (k : ℕ) → k < m.keys → coded_name m codes k ≡ key_name m k
  unfolding coded_name key_name tab first_name
  name_coded k there = ap (λ x. cond (named (m.key_alias k)) (key_alias_text m k) x) (go (m.key_path k).count refl)
    where
      go : (n : ℕ) → (m.key_path k).count ≡ n
          → cond (eqb (m.key_path k).count 0 || cast_code (get_or codes (m.key_path k).first 0)) [] (property_text m (get_or codes (m.key_path k).first 0)) ≡ first_name (tab (λ g. segment_at m g) (m.key_path k).first (m.key_path k).count)
      go zero e = rw e
      go (suc n) e =
          let f = first_coded k there (omega arith) in
          rw (e, eqb-suc-zero n, f.1) (begins (m.key_owner k) (segment_at m (m.key_path k).first) (tab (λ g. segment_at m g) ((m.key_path k).first + 1) n) f.0)

  -- 15g
  named_coded : (k : ℕ) → k < m.keys → named_again m codes k ≡ key15g m k
  unfolding named_again again_named key15g
  named_coded k there = any_same _ _ 0 k (λ j a b. ap₂ (λ x y. eqb (m.key_owner j) (m.key_owner k) && same x y) (name_coded j (omega arith)) (name_coded k there))

  pub key_coded_lem : (k : ℕ) → k < m.keys → key_coded m codes k ≡ key15 m k
  unfolding key_coded key15
  key_coded_lem k there =
      rw (path_coded m codes coded few short k there, named_coded k there)
      (ap (λ i. i || key15f m k || key15g m k || key15h m k) (sym (or_assoc (key15a m k || key15b m k) (key15c m k) (key15d m k || key15e m k))))
