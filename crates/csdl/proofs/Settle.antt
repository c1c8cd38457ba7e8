-- A set of numbers below n that only grows, each stage given by the one before, is settled after n stages.
use Prim.Native.Nat.{ℕ, zero, suc, ◌+◌, ◌-◌, ◌≤◌, ◌<◌, zero-le}
use mathlib.Core.Path.{◌≡◌, refl, sym, ap, ◌∙◌, subst}
use mathlib.Core.Logic.{◌⊎◌, inl, inr, ⊎_elim}
use mathlib.Core.Bool.{Bool, true, false}
use native.Mathlib.Nat.{add-suc, add-zero}
use native.Mathlib.Omega.{arith}
use Rattle.csdl.specs.Search.{one_if, sum_from, count_from}
use Rattle.csdl.proofs.Logic.{Among, among_suc, sum_same, true-false}

pub one_if_le : (b : Bool) → one_if b ≤ 1
one_if_le true = omega arith
one_if_le false = omega arith

pub count-le : (test : ℕ → Bool) (i n : ℕ) → count_from test i n ≤ n
unfolding sum_from
count-le test i zero = zero-le
count-le test i (suc n) = omega (arith, one_if_le (test i), count-le test (i + 1) n)

-- q has all that p has: either they are the same, or q has more.
pub count-more : (p q : ℕ → Bool) → ((k : ℕ) → p k ≡ true → q k ≡ true) → (i n : ℕ) → Among i n (λ k. p k ≡ q k) ⊎ (count_from p i n < count_from q i n)
unfolding sum_from
count-more p q sub i zero = inl (λ k a b. absurd (omega arith))
count-more p q sub i (suc n) = go (p i) (q i) refl refl (count-more p q sub (i + 1) n)
  where
    go : (a b : Bool) → p i ≡ a → q i ≡ b → Among (i + 1) n (λ k. p k ≡ q k) ⊎ (count_from p (i + 1) n < count_from q (i + 1) n)
        → Among i (suc n) (λ k. p k ≡ q k) ⊎ (one_if (p i) + count_from p (i + 1) n < one_if (q i) + count_from q (i + 1) n)
    go true true e f (inl s) = inl (among_suc (λ k. p k ≡ q k) i n (e ∙ sym f) s)
    go true true e f (inr l) = inr (rw (e, f) (omega arith))
    go false false e f (inl s) = inl (among_suc (λ k. p k ≡ q k) i n (e ∙ sym f) s)
    go false false e f (inr l) = inr (rw (e, f) (omega arith))
    go true false e f m = true-false (q i) (sub i e) f
    go false true e f (inl s) = inr (rw (e, f) (omega (arith, sum_same (λ k. one_if (p k)) (λ k. one_if (q k)) (i + 1) n (λ k a b. ap one_if (s k a b)))))
    go false true e f (inr l) = inr (rw (e, f) (omega arith))

-- Each number below n.
abbrev pub Below : ℕ → (ℕ → Type 0) → Type 0
Below n P = (k : ℕ) → k < n → P k

module _ (n : ℕ) (X : ℕ → ℕ → Bool) (grows : (k t : ℕ) → X k t ≡ true → X (suc k) t ≡ true)
    (follows : (k : ℕ) → Below n (λ t. X k t ≡ X (suc k) t) → Below n (λ t. X (suc k) t ≡ X (suc (suc k)) t)) where
  abbrev Still : ℕ → Type 0
  Still k = Below n (λ t. X k t ≡ X (suc k) t)

  -- Some stage before k is still, or stage k has at least k.
  reached : (k : ℕ) → ((j : ℕ) × (j < k) × Still j) ⊎ (k ≤ count_from (X k) 0 n)
  reached zero = inr zero-le
  reached (suc k) =
      ⊎_elim (λ w. inl (w.0, omega arith, w.2))
      (λ h. ⊎_elim (λ s. inl (k, omega arith, λ t l. s t zero-le (omega arith))) (λ l. inr (omega arith)) (count-more (X k) (X (suc k)) (grows k) 0 n))
      (reached k)

  settled : (j : ℕ) × (j ≤ n) × Still j
  settled = ⊎_elim (λ w. (w.0, omega arith, w.2)) (λ h. absurd (omega (arith, count-le (X (suc n)) 0 n))) (reached (suc n))

  later : (d k t : ℕ) → X k t ≡ true → X (k + d) t ≡ true
  later zero k t e = rw add-zero e
  later (suc d) k t e = rw add-suc (grows (k + d) t (later d k t e))

  stays : (d j : ℕ) → Still j → Still (j + d)
  stays zero j s = rw add-zero s
  stays (suc d) j s = rw add-suc (follows (j + d) (stays d j s))

  same : (d j : ℕ) → Still j → Below n (λ t. X j t ≡ X (j + d) t)
  same zero j s t l = rw add-zero
  same (suc d) j s t l = rw add-suc (same d j s t l ∙ stays d j s t l)

  -- What any stage has, stage n has.
  pub by_n : (m t : ℕ) → t < n → X m t ≡ true → X n t ≡ true
  by_n m t l e =
      let (j, h, s) = settled in
      let a : X (j + m) t ≡ true = subst (λ (k : ℕ). X k t ≡ true) (omega arith) (later j m t e) in
      subst (λ (k : ℕ). X k t ≡ true) (omega arith) (later (n - j) j t (same m j s t l ∙ a))
