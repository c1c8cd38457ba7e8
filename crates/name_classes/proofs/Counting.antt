-- Sums and counts over numbers: one term put in, and the numbers below another counted. Assumes nothing.
use Prim.Native.Nat.{ℕ, zero, suc, ◌+◌, ◌≤◌, ◌<◌}
use mathlib.Core.Path.{◌≡◌, refl, ap₂, ◌∙◌}
use mathlib.Core.Bool.{Bool, true, false}
use native.Mathlib.Numerals.{add-one}
use native.Mathlib.Omega.{arith}
use Rattle.csdl.proofs.Logic.{count-suc, below_or_not}
use Rattle.csdl.specs.Search.{sum_from, count_from}

sum_shift : (f g : ℕ → ℕ) (i n : ℕ) → ((j : ℕ) → i ≤ j → j < i + n → g (suc j) ≡ f j) → sum_from g (i + 1) n ≡ sum_from f i n
unfolding sum_from
sum_shift f g i zero e = refl
sum_shift f g i (suc n) e =
    let here : g (i + 1) ≡ f i = rw (add-one i) (e i (omega arith) (omega arith)) in
    ap₂ ◌+◌ here (sum_shift f g (i + 1) n (λ j a b. e j (omega arith) (omega arith)))

-- The terms of g are those of f, and v put in at number i + a.
pub sum_insert : (f g : ℕ → ℕ) (v i a n : ℕ) → a ≤ n → ((j : ℕ) → i ≤ j → j < i + a → g j ≡ f j) → g (i + a) ≡ v → ((j : ℕ) → i + a ≤ j → j < i + n → g (suc j) ≡ f j)
    → sum_from g i (suc n) ≡ sum_from f i n + v
unfolding sum_from
sum_insert f g v i zero n h front here back =
    let e : i + 0 ≡ i = omega arith in
    let s : sum_from g (i + 1) n ≡ sum_from f i n = sum_shift f g i n (λ j a b. back j (omega arith) b) in
    let z : g i ≡ v = rw e at here in
    omega (arith, s, z)
sum_insert f g v i (suc a) zero h front here back = absurd (omega arith)
sum_insert f g v i (suc a) (suc n) h front here back =
    let e : i + 1 + a ≡ i + suc a = omega arith in
    let s : sum_from g (i + 1) (suc n) ≡ sum_from f (i + 1) n + v = sum_insert f g v (i + 1) a n (omega arith) (λ j b c. front j (omega arith) (omega arith)) (rw e here) (λ j b c. back j (omega arith) (omega arith)) in
    let z : g i ≡ f i = front i (omega arith) (omega arith) in
    omega (arith, s, z)

count_none : (test : ℕ → Bool) → ◌≡◌ {A = ℕ} (count_from test 0 0) 0
unfolding sum_from
count_none test = refl

-- A test that the numbers below i pass and the others do not.
pub count-front : (test : ℕ → Bool) (n i : ℕ) → i ≤ n → ((j : ℕ) → j < i → test j ≡ true) → ((j : ℕ) → i ≤ j → j < n → test j ≡ false) → count_from test 0 n ≡ i
count-front test zero i h a b = omega (arith, count_none test)
count-front test (suc n) i h a b =
    below_or_not n i
    (λ l. count-suc test n ∙ rw (a n l) (omega (arith, l, h, count-front test n n (omega arith) (λ j k. a j (omega arith)) (λ j k m. absurd (omega arith)))))
    (λ l. count-suc test n ∙ rw (b n l (omega arith)) (omega (arith, count-front test n i l a (λ j k m. b j k (omega arith)))))
