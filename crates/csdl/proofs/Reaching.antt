-- Rounds find exactly what is reached in one or more steps through numbers below n.
use Prim.Native.Nat.{ℕ, zero, suc, ◌≤◌, ◌<◌, zero-le}
use mathlib.Core.Path.{◌≡◌, refl, sym, ap, ap₂, ◌∙◌}
use mathlib.Core.Bool.{Bool, true, false, ◌&&◌, ◌||◌}
use mathlib.Core.Logic.{◌↔◌, ⊎_elim}
use native.Mathlib.Omega.{arith}
use lib.Dec.{ltb}
use lib.ListN.{get_or}
use borrow.Author.Tests.{ltb-true, ltb-false}
use Rattle.csdl.specs.Search.{any_from}
use Rattle.csdl.specs.Climb.{rounds, reaches}
use Rattle.csdl.proofs.Settle.{by_n}
use Rattle.csdl.proofs.Logic.{or_cases, or_left, or_right, and_cases, and_both, true-false, any_found, any_of, any_same, tab-same, tab-at, tab_past}

-- b is reached from a in one or more steps through numbers below n.
pub data Reach (step : ℕ → ℕ → Bool) (n a : ℕ) : ℕ → Type 0 where
  in_one : {b : ℕ} → step a b ≡ true → Reach step n a b
  in_more : {b c : ℕ} → c < n → Reach step n a c → step c b ≡ true → Reach step n a b

module _ (step : ℕ → ℕ → Bool) (n a : ℕ) where
  -- b is seen after k further rounds.
  abbrev seen : ℕ → ℕ → Bool
  seen k b = get_or (rounds step n a k) b false

  abbrev through : ℕ → ℕ → ℕ → Bool
  through k b c = seen k c && step c b

  seen_first : (b : ℕ) → b < n → seen 0 b ≡ step a b
  unfolding rounds
  seen_first b l = tab-at (step a) false n b l

  seen_next : (k b : ℕ) → b < n → seen (suc k) b ≡ (seen k b || any_from (λ c. through k b c) 0 n)
  unfolding rounds
  seen_next k b l = tab-at (λ d. seen k d || any_from (λ c. through k d c) 0 n) false n b l

  seen_past : (k b : ℕ) → n ≤ b → seen k b ≡ false
  unfolding rounds
  seen_past zero b h = tab_past (step a) false 0 n b h
  seen_past (suc k) b h = tab_past (λ d. seen k d || any_from (λ c. through k d c) 0 n) false 0 n b h

  -- What is seen lies below n.
  seen_below : (k b : ℕ) → seen k b ≡ true → b < n
  seen_below k b e = go (ltb b n) refl
    where
      go : (c : Bool) → ltb b n ≡ c → b < n
      go true q = ltb-true b n q
      go false q = true-false (seen k b) e (seen_past k b (ltb-false b n q))

  -- What is seen is reached.
  sound : (k b : ℕ) → seen k b ≡ true → Reach step n a b
  sound zero b e = in_one (sym (seen_first b (seen_below 0 b e)) ∙ e)
  sound (suc k) b e =
      ⊎_elim (λ h. sound k b h)
      (λ h. let w = any_found (λ c. through k b c) 0 n h in
      let p = and_cases (seen k w.0) (step w.0 b) w.3 in
      in_more (omega arith) (sound k w.0 p.0) p.1)
      (or_cases (seen k b) (any_from (λ c. through k b c) 0 n) (sym (seen_next k b (seen_below (suc k) b e)) ∙ e))

  grows : (k b : ℕ) → seen k b ≡ true → seen (suc k) b ≡ true
  grows k b e = seen_next k b (seen_below k b e) ∙ or_left (seen k b) (any_from (λ c. through k b c) 0 n) e

  -- What is reached is seen after enough rounds.
  enough : {b : ℕ} → b < n → Reach step n a b → (k : ℕ) × (seen k b ≡ true)
  enough l (in_one {b} e) = (0, seen_first b l ∙ e)
  enough l (in_more {b} {c} h r e) =
      let w = enough h r in
      let found = any_of (λ d. through w.0 b d) 0 n c zero-le (omega arith) (and_both (seen w.0 c) (step c b) w.1 e) in
      (suc w.0, seen_next w.0 b l ∙ or_right (seen w.0 b) (any_from (λ d. through w.0 b d) 0 n) found)

  follows : (k : ℕ) → ((t : ℕ) → t < n → seen k t ≡ seen (suc k) t) → (t : ℕ) → t < n → seen (suc k) t ≡ seen (suc (suc k)) t
  follows k s t l =
      seen_next k t l
      ∙ ap₂ ◌||◌ (s t l) (any_same (λ c. through k t c) (λ c. through (suc k) t c) 0 n (λ c i h. ap (λ (x : Bool). x && step c t) (s c (omega arith))))
      ∙ sym (seen_next (suc k) t l)

  pub reaches_sound : (b : ℕ) → reaches step n a b ≡ true → Reach step n a b
  unfolding reaches
  reaches_sound b e = sound n b e

  pub reaches_found : (b : ℕ) → b < n → Reach step n a b → reaches step n a b ≡ true
  unfolding reaches
  reaches_found b l r = let w = enough l r in by_n n seen grows follows w.0 b l w.1

  pub reaches_exact : (b : ℕ) → b < n → (reaches step n a b ≡ true) ↔ Reach step n a b
  reaches_exact b l = (reaches_sound b, reaches_found b l)

-- Steps that agree below n.
module _ (s t : ℕ → ℕ → Bool) (n : ℕ) (e : (a b : ℕ) → a < n → b < n → s a b ≡ t a b) where
  rounds-same : (k a : ℕ) → a < n → rounds s n a k ≡ rounds t n a k
  unfolding rounds
  rounds-same zero a i = tab-same (s a) (t a) 0 n (λ b l h. e a b i (omega arith))
  rounds-same (suc k) a i =
      rw (rounds-same k a i)
      (tab-same (λ b. get_or (rounds t n a k) b false || any_from (λ c. get_or (rounds t n a k) c false && s c b) 0 n)
      (λ b. get_or (rounds t n a k) b false || any_from (λ c. get_or (rounds t n a k) c false && t c b) 0 n) 0 n
      (λ b l h.
      ap (λ (x : Bool). get_or (rounds t n a k) b false || x)
      (any_same (λ c. get_or (rounds t n a k) c false && s c b) (λ c. get_or (rounds t n a k) c false && t c b) 0 n
      (λ c p q. ap (λ (y : Bool). get_or (rounds t n a k) c false && y) (e c b (omega arith) (omega arith))))))

  pub reaches_same : (a b : ℕ) → a < n → reaches s n a b ≡ reaches t n a b
  unfolding reaches
  reaches_same a b i = rw (rounds-same n a i)
