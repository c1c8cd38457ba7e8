-- A search cut into windows: from one number on, then from another; and a search that passes only in one of them. Assumes nothing.
use Prim.Native.Nat.{ℕ, zero, suc, ◌+◌, ◌-◌, ◌≤◌, ◌<◌, zero-le}
use mathlib.Core.Path.{◌≡◌, refl, sym, ◌∙◌}
use mathlib.Core.Bool.{Bool, true, false, cond}
use native.Mathlib.Omega.{arith}
use lib.Dec.{ltb}
use borrow.Author.Tests.{ltb-true, ltb-false}
use Rattle.csdl.specs.Search.{first_from, or_else, place_found}
use Rattle.csdl.proofs.Logic.{first_found, first-none, first-is, none_first}

-- The place of a record that was found.
pub place_of_some : (first k : ℕ) → (k ≡ 0 → ⊥) → first + k ≡ place_found first k
place_of_some first zero h = absurd (h refl)
place_of_some first (suc k) h = refl

-- A search over a numbers and then over b.
pub first_split : (f : ℕ → Bool) (a b i : ℕ) → first_from f i (a + b) ≡ or_else (first_from f i a) (first_from f (i + a) b)
unfolding first_from
first_split f zero b i = let e : i + 0 ≡ i = omega arith in let z : 0 + b ≡ b = omega arith in rw (e, z)
first_split f (suc a) b i =
    let e : i + 1 + a ≡ i + suc a = omega arith in
    let z : suc a + b ≡ suc (a + b) = omega arith in
    rw (z, first_split f a b (i + 1), e) (go (f i))
  where
    go : (t : Bool)
        → cond t (suc i) (or_else (first_from f (i + 1) a) (first_from f (i + suc a) b))
        ≡ or_else (cond t (suc i) (first_from f (i + 1) a)) (first_from f (i + suc a) b)
    go true = refl
    go false = refl

-- A search d further on.
pub first_placed : (f : ℕ → Bool) (d n i : ℕ) → first_from f (d + i) n ≡ place_found d (first_from (λ k. f (d + k)) i n)
unfolding first_from
first_placed f d zero i = refl
first_placed f d (suc n) i =
    let e : d + i + 1 ≡ d + (i + 1) = omega arith in
    rw (e, first_placed f d n (i + 1)) (go (f (d + i)))
  where
    go : (t : Bool)
        → cond t (suc (d + i)) (place_found d (first_from (λ k. f (d + k)) (i + 1) n)) ≡ place_found d (cond t (suc i) (first_from (λ k. f (d + k)) (i + 1) n))
    go true = omega arith
    go false = refl

-- A search over places whose test passes only among the n places from a on, where it is another test.
module _ (f g : ℕ → Bool) (a n e : ℕ) (fits : a + n ≤ e) (within : (k : ℕ) → k < n → f (a + k) ≡ g k)
    (outside : (p : ℕ) → (a ≤ p → p < a + n → ⊥) → f p ≡ false) where
  misses : (p : ℕ) → ((k : ℕ) → k < n → p ≡ a + k → g k ≡ false) → f p ≡ false
  misses p h = low (ltb p a) refl
    where
      inside : a ≤ p → p < a + n → f p ≡ false
      inside x y =
          let q : p ≡ a + (p - a) = omega arith in
          let z : f (a + (p - a)) ≡ false = within (p - a) (omega arith) ∙ h (p - a) (omega arith) q in
          rw q z

      high : a ≤ p → (b : Bool) → ltb p (a + n) ≡ b → f p ≡ false
      high x true q = inside x (ltb-true p (a + n) q)
      high x false q = let w = ltb-false p (a + n) q in outside p (λ y z. omega arith)

      low : (b : Bool) → ltb p a ≡ b → f p ≡ false
      low true q = let w = ltb-true p a q in outside p (λ y z. omega arith)
      low false q = high (ltb-false p a q) (ltb p (a + n)) refl

  pub window : place_found a (first_from g 0 n) ≡ first_from f 0 e
  window = go (first_from g 0 n) refl
    where
      go : (r : ℕ) → first_from g 0 n ≡ r → place_found a (first_from g 0 n) ≡ first_from f 0 e
      go zero q = rw q (sym (none_first f 0 e (λ p x y. misses p (λ k h z. first-none g 0 n q k zero-le (omega arith)))))
      go (suc k) q =
          let w = first_found g 0 n k q in
          let d : a + suc k ≡ suc (a + k) = omega arith in
          rw (q, d) (sym (first-is f 0 e (a + k) zero-le (omega (arith, w.1)) (within k (omega (arith, w.1)) ∙ w.2)
          (λ j x y. misses j (λ i h z. w.3 i zero-le (omega arith)))))
