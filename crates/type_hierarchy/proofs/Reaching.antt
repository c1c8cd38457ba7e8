-- What is reached through numbers below k, and by way of k too: the laws of a table that goes through one number after the other. Assumes nothing.
use Prim.Native.Nat.{ℕ, ◌+◌, ◌<◌}
use mathlib.Core.Path.{◌≡◌, refl, subst}
use mathlib.Core.Bool.{Bool, true, false}
use mathlib.Core.Logic.{◌⊎◌, inl, inr}
use native.Mathlib.Omega.{arith}
use lib.Dec.{ltb}
use borrow.Author.Tests.{ltb-true, ltb-false}
use Rattle.csdl.proofs.Reaching.{Reach}
use Rattle.csdl.proofs.Reaching.Reach.{in_one, in_more}

module _ (step : ℕ → ℕ → Bool) where
  pub direct : (a : ℕ) {b : ℕ} → Reach step 0 a b → step a b ≡ true
  direct a (in_one e) = e
  direct a (in_more h r e) = absurd (omega arith)

  pub wider : (k a : ℕ) {b : ℕ} → Reach step k a b → Reach step (k + 1) a b
  wider k a (in_one e) = in_one e
  wider k a (in_more {b} {c} h r e) = in_more {c = c} (omega arith) (wider k a r) e

  pub after : (k a : ℕ) {d b : ℕ} → d < k → Reach step k a d → Reach step k d b → Reach step k a b
  after k a l r (in_one e) = in_more l r e
  after k a l r (in_more h s e) = in_more h (after k a l r s) e

  -- what is reached through numbers up to k is reached without k, or by way of it
  pub by_way : (k a : ℕ) {b : ℕ} → Reach step (k + 1) a b → Reach step k a b ⊎ (Reach step k a k × Reach step k k b)
  by_way k a (in_one e) = inl (in_one e)
  by_way k a (in_more {b} {c} h r e) = go (ltb c k) refl (by_way k a r)
    where
      go : (x : Bool) → ltb c k ≡ x → Reach step k a c ⊎ (Reach step k a k × Reach step k k c) → Reach step k a b ⊎ (Reach step k a k × Reach step k k b)
      go true q (inl s) = inl (in_more (ltb-true c k q) s e)
      go true q (inr s) = inr (s.0, in_more (ltb-true c k q) s.1 e)
      go false q (inl s) = let z : c ≡ k = omega (arith, ltb-false c k q) in inr (subst (λ (y : ℕ). Reach step k a y) z s, in_one (subst (λ (y : ℕ). step y b ≡ true) z e))
      go false q (inr s) = let z : c ≡ k = omega (arith, ltb-false c k q) in inr (s.0, in_one (subst (λ (y : ℕ). step y b ≡ true) z e))
