-- Paths compared segment by segment, and bindings whose fingerprints differ. Assumes nothing.
use Prim.Native.Nat.{ℕ, zero, suc, ◌+◌, ◌-◌, ◌*◌, ◌≤◌, ◌<◌}
use mathlib.Core.Path.{◌≡◌, refl, ap}
use mathlib.Core.List.{List}
use mathlib.Core.Bool.{Bool, true, false, cond, not, ◌&&◌, and-false}
use native.Mathlib.Nat.{add-zero}
use native.Mathlib.Omega.{arith}
use lib.Dec.{eqb}
use borrow.Author.Tests.{eqb-true, eqb-false, not-true, not-false}
use Rattle.csdl.specs.Search.{tab, any_from}
use Rattle.csdl.specs.Model.{Model}
use Rattle.csdl.specs.Path.{Segment, same_segment, same_segments}
use Rattle.csdl.proofs.Logic.{and_cases, any_none}
use Rattle.rules_bindings.specs.Bindings.{class_at, again_bound, binding_fingerprint}

module _ (at : ℕ → Segment) where
  -- paths of other lengths differ
  pub same_counts : (g h n k : ℕ) → (n ≡ k → ⊥) → same_segments (tab at g n) (tab at h k) ≡ false
  unfolding tab same_segments
  same_counts g h zero zero d = absurd (d refl)
  same_counts g h zero (suc k) d = refl
  same_counts g h (suc n) zero d = refl
  same_counts g h (suc n) (suc k) d = rw (same_counts (g + 1) (h + 1) n k (λ e. d (ap suc e))) (and-false (same_segment (at g) (at h)))

  abbrev differs : ℕ → ℕ → ℕ → Bool
  differs g h k = not (same_segment (at (g + k)) (at (h + k)))

  same_from : (g h i n : ℕ) → same_segments (tab at (g + i) n) (tab at (h + i) n) ≡ not (any_from (λ k. differs g h k) i n)
  unfolding tab same_segments any_from
  same_from g h i zero = refl
  same_from g h i (suc n) =
      let p : g + i + 1 ≡ g + (i + 1) = omega arith in
      let q : h + i + 1 ≡ h + (i + 1) = omega arith in
      rw (p, q, same_from g h (i + 1) n) (one (same_segment (at (g + i)) (at (h + i))) (any_from (λ k. differs g h k) (i + 1) n))
    where
      one : (s r : Bool) → (s && not r) ≡ not (cond (not s) true r)
      one true r = refl
      one false r = refl

  -- paths of one length are the same where no segment differs
  pub same-each : (g h n : ℕ) → same_segments (tab at g n) (tab at h n) ≡ not (any_from (λ k. differs g h k) 0 n)
  same-each g h n = rw (add-zero g, add-zero h) at (same_from g h 0 n)

-- Bindings that are alike have one fingerprint.
module _ (m : Model) (index codes : List ℕ) (j b : ℕ) where
  one_fingerprint : again_bound m index codes j b ≡ true → binding_fingerprint m index codes j ≡ binding_fingerprint m index codes b
  unfolding again_bound binding_fingerprint
  one_fingerprint h =
      let n = (m.binding_path b).count in
      let both = and_cases (eqb (m.binding_child j) (m.binding_child b) && eqb (m.binding_path j).count n) _ h in
      let front = and_cases (eqb (m.binding_child j) (m.binding_child b)) (eqb (m.binding_path j).count n) both.0 in
      let none = any_none (λ k. not (eqb (class_at m index codes j k) (class_at m index codes b k))) 0 n (not-true _ both.1) in
      rw (eqb-true (m.binding_child j) (m.binding_child b) front.0, eqb-true (m.binding_path j).count n front.1) (ap (λ x. (m.binding_child b * 16 + n) * 4294967296 + x) (last (eqb n 0) refl none))
    where
      last : (z : Bool) → eqb (m.binding_path b).count 0 ≡ z
          → ((k : ℕ) → 0 ≤ k → k < 0 + (m.binding_path b).count → not (eqb (class_at m index codes j k) (class_at m index codes b k)) ≡ false)
          → cond (eqb (m.binding_path b).count 0) 0 (class_at m index codes j ((m.binding_path b).count - 1)) ≡ cond (eqb (m.binding_path b).count 0) 0 (class_at m index codes b ((m.binding_path b).count - 1))
      last true e none = rw e
      last false e none =
          let k = (m.binding_path b).count - 1 in
          let there = eqb-false (m.binding_path b).count 0 e in
          let same = eqb (class_at m index codes j k) (class_at m index codes b k) in
          rw (e, eqb-true (class_at m index codes j k) (class_at m index codes b k) (not-false same (none k (omega arith) (omega (arith, there)))))

  pub bindings_apart : (binding_fingerprint m index codes j ≡ binding_fingerprint m index codes b → ⊥) → false ≡ again_bound m index codes j b
  bindings_apart n = go (again_bound m index codes j b) refl
    where
      go : (x : Bool) → again_bound m index codes j b ≡ x → false ≡ x
      go true e = absurd (n (one_fingerprint e))
      go false e = refl
