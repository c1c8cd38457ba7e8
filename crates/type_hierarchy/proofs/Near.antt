-- The nearest declaration, found in one pass over the declarations. Assumes nothing.
use Prim.Native.Nat.{ℕ, zero, suc, ◌+◌, ◌-◌, ◌≤◌, ◌<◌}
use mathlib.Core.Path.{◌≡◌, refl, sym, ◌∙◌, ap}
use mathlib.Core.Bool.{Bool, true, false, false≢true, cond, ◌&&◌, ◌||◌, or_comm}
use native.Mathlib.Numerals.{add-one}
use native.Mathlib.Nat.{add-zero, zero-add}
use native.Mathlib.Omega.{arith}
use lib.Dec.{eqb, ltb}
use borrow.Author.Tests.{eq-eqb, ne_eqb, eqb-true, eqb-false, lt-ltb}
use Rattle.csdl.specs.Search.{first_from, or_else, one_if}
use Rattle.csdl.specs.Climb.{climb, nearest}
use Rattle.csdl.proofs.Logic.{less_one, bool_iff, below_or_not, equal_or_not}
use Rattle.csdl.proofs.Settle.{by_n}
use Rattle.csdl.proofs.Climbing.{found_test, climb_test, climb_grows, nearest_test}
use Rattle.type_hierarchy.specs.Near.{left_or, left_at, only}

-- ---- what a climb gives, of answers f and of g, which also has k + 1 at the number w
record Moved (k lf lw lg nf ng : ℕ) : Type 0 where
  nearer : lf < lw → (ng ≡ suc k) × (lg ≡ lw)
  farther : (lf < lw → ⊥) → (ng ≡ nf) × (lg ≡ lf)

moved_step : (k ft : ℕ) (same top : Bool) (l lf lw lg nf ng : ℕ) → lf ≤ l → lw ≤ l → Moved k lf lw lg nf ng
    → Moved k
    (left_or ft (suc l) (cond top 0 lf))
    (left_or (one_if same) (suc l) (cond top 0 lw))
    (left_or (or_else ft (cond same (suc k) 0)) (suc l) (cond top 0 lg))
    (or_else ft (cond top 0 nf))
    (or_else (or_else ft (cond same (suc k) 0)) (cond top 0 ng))
moved_step k (suc f) true top l lf lw lg nf ng p q m = record { nearer = λ h. absurd (omega arith); farther = λ h. (refl, refl) }
moved_step k (suc f) false true l lf lw lg nf ng p q m = record { nearer = λ h. absurd (omega arith); farther = λ h. (refl, refl) }
moved_step k (suc f) false false l lf lw lg nf ng p q m = record { nearer = λ h. absurd (omega arith); farther = λ h. (refl, refl) }
moved_step k zero true true l lf lw lg nf ng p q m = record { nearer = λ h. (refl, refl); farther = λ h. absurd (h (omega arith)) }
moved_step k zero true false l lf lw lg nf ng p q m = record { nearer = λ h. (refl, refl); farther = λ h. absurd (h (omega arith)) }
moved_step k zero false true l lf lw lg nf ng p q m = record { nearer = λ h. absurd (omega arith); farther = λ h. (refl, refl) }
moved_step k zero false false l lf lw lg nf ng p q m = m

zeros : (b : Bool) → ◌≡◌ {A = ℕ} (cond b 0 0) 0
zeros true = refl
zeros false = refl

left_step : (o : ℕ) (top : Bool) (l r : ℕ) → r ≤ l → left_or o (suc l) (cond top 0 r) ≤ suc l
left_step zero true l r h = omega arith
left_step zero false l r h = omega arith
left_step (suc o) top l r h = omega arith

module _ (next : ℕ → ℕ) where
  left_test : (own : ℕ → ℕ) (l t : ℕ) → left_at own next (suc l) t ≡ left_or (own t) (suc l) (cond (eqb (next t) 0) 0 (left_at own next l (next t - 1)))
  unfolding left_at
  left_test own l t = ap (left_or (own t) (suc l)) (found_test 0 (λ b. left_at own next l b) (next t))

  left_le : (own : ℕ → ℕ) (l t : ℕ) → left_at own next l t ≤ l
  unfolding left_at
  left_le own zero t = omega arith
  left_le own (suc l) t = rw (left_test own l t) (left_step (own t) (eqb (next t) 0) l (left_at own next l (next t - 1)) (left_le own l (next t - 1)))

  moved : (f g : ℕ → ℕ) (w k : ℕ) → ((u : ℕ) → g u ≡ or_else (f u) (cond (eqb w u) (suc k) 0)) → (l t : ℕ)
      → Moved k (left_at f next l t) (left_at (only w) next l t) (left_at g next l t) (nearest f next l t) (nearest g next l t)
  unfolding left_at nearest
  moved f g w k e zero t = record { nearer = λ h. absurd (omega arith); farther = λ h. (refl, refl) }
  moved f g w k e (suc l) t =
      rw (left_test f l t, left_test (only w) l t, left_test g l t, nearest_test next l t f, nearest_test next l t g, e t)
      (moved_step k (f t) (eqb w t) (eqb (next t) 0) l _ _ _ _ _ (left_le f l (next t - 1)) (left_le (only w) l (next t - 1)) (moved f g w k e l (next t - 1)))

  same-nearest : (f g : ℕ → ℕ) → ((u : ℕ) → g u ≡ f u) → (l t : ℕ) → (nearest g next l t ≡ nearest f next l t) × (left_at g next l t ≡ left_at f next l t)
  unfolding left_at nearest
  same-nearest f g e zero t = (refl, refl)
  same-nearest f g e (suc l) t =
      let i = same-nearest f g e l (next t - 1) in
      (rw (nearest_test next l t f, nearest_test next l t g, e t, i.0), rw (left_test f l t, left_test g l t, e t, i.1))

  no_nearest : (f : ℕ → ℕ) → ((u : ℕ) → f u ≡ 0) → (l t : ℕ) → (nearest f next l t ≡ 0) × (left_at f next l t ≡ 0)
  unfolding left_at nearest
  no_nearest f e zero t = (refl, refl)
  no_nearest f e (suc l) t =
      let i = no_nearest f e l (next t - 1) in
      (rw (nearest_test next l t f, e t, i.0) (zeros (eqb (next t) 0)), rw (left_test f l t, e t, i.1) (zeros (eqb (next t) 0)))

-- ---- a climb that meets u
or-true : (b : Bool) → b || true ≡ true
or-true true = refl
or-true false = refl

flipped : (x y : ℕ) → eqb x y ≡ eqb y x
flipped x y = go (eqb x y) refl
  where
    go : (b : Bool) → eqb x y ≡ b → eqb x y ≡ eqb y x
    go true e = e ∙ sym (eq-eqb y x (sym (eqb-true x y e)))
    go false e = e ∙ sym (ne_eqb y x (λ q. eqb-false x y e (sym q)))

met_step : (here top up : Bool) (above : Bool) (l left : ℕ) → ltb 0 left ≡ above || up → ltb 0 (left_or (one_if here) (suc l) (cond top 0 left)) ≡ cond top false (up || above) || here
met_step true top up above l left e = lt-ltb 0 (suc l) (omega arith) ∙ sym (or-true (cond top false (up || above)))
met_step false true up above l left e = refl
met_step false false true above l left e = e ∙ or-true above
met_step false false false true l left e = e
met_step false false false false l left e = e

module _ (next : ℕ → ℕ) (u : ℕ) where
  met-more : (l t : ℕ) → ltb 0 (left_at (only u) next (suc l) t) ≡ climb next l u t || eqb u t
  unfolding left_at climb
  met-more zero t = rw (left_test next (only u) 0 t) (none (eqb u t) (eqb (next t) 0))
    where
      none : (here top : Bool) → ltb 0 (left_or (one_if here) 1 (cond top 0 0)) ≡ false || here
      none true top = refl
      none false true = refl
      none false false = refl
  met-more (suc l) t =
      rw (left_test next (only u) (suc l) t, climb_test next l t u)
      (met_step (eqb u t) (eqb (next t) 0) (eqb (next t - 1) u) (climb next l u (next t - 1)) (suc l) _ (rw (flipped (next t - 1) u) (met-more l (next t - 1))))

-- ---- one step of the climb to u, as the code takes it: b is what `next` gives at t
module _ (next : ℕ → ℕ) (u t : ℕ) where
  pub left_out : (left : ℕ) → left ≡ 0 → 0 ≡ left_at (only u) next left t
  unfolding left_at
  left_out left h = rw h

  pub left_met : (left : ℕ) → (left ≡ 0 → ⊥) → u ≡ t → left ≡ left_at (only u) next left t
  unfolding left_at
  left_met zero p h = absurd (p refl)
  left_met (suc l) p h = rw (eq-eqb u t h)

  pub left_none : (left b : ℕ) → (u ≡ t → ⊥) → b ≡ next t → b ≡ 0 → 0 ≡ left_at (only u) next left t
  unfolding left_at
  left_none zero b n e h = refl
  left_none (suc l) b n e h = rw (ne_eqb u t n, ← e, h)

  pub left_up : (left b : ℕ) → (left ≡ 0 → ⊥) → (u ≡ t → ⊥) → b ≡ next t → (b ≡ 0 → ⊥) → {r : ℕ} → r ≡ left_at (only u) next (left - 1) (b - 1) → r ≡ left_at (only u) next left t
  left_up zero b p n e h q = absurd (p refl)
  left_up (suc l) b p n e h q = rw (left_test next (only u) l t, ne_eqb u t n, ← e, ne_eqb b 0 h) (rw less_one at q)

-- ---- a climb over n numbers, where none from n on has a next: from t it meets u, both below n, just where u is t or above it
or-more : (a b c : Bool) → (a ≡ true → b ≡ true) → a || c ≡ true → b || c ≡ true
or-more true b c f h = rw (f refl)
or-more false b c f h = rw h (or-true b)

module _ (next : ℕ → ℕ) (n : ℕ) (past : (t : ℕ) → n ≤ t → next t ≡ 0) (u : ℕ) (low : u < n) where
  abbrev met : ℕ → ℕ → Bool
  met k t = ltb 0 (left_at (only u) next k t)

  met_grows : (k t : ℕ) → met k t ≡ true → met (suc k) t ≡ true
  met_grows zero t h = absurd (false≢true (ap (λ (x : ℕ). ltb 0 x) (left_out next u t 0 refl) ∙ h))
  met_grows (suc k) t h = met-more next u (suc k) t ∙ or-more (climb next k u t) (climb next (suc k) u t) (eqb u t) (climb_grows next u k t) (sym (met-more next u k t) ∙ h)

  met-here : (k t : ℕ) → u ≡ t → met (suc k) t ≡ true
  met-here k t e = ap (λ (x : ℕ). ltb 0 x) (sym (left_met next u t (suc k) (λ z. omega arith) e)) ∙ lt-ltb 0 (suc k) (omega arith)

  met-none : (k t : ℕ) → (u ≡ t → ⊥) → next t ≡ 0 → met k t ≡ false
  met-none k t d e = ap (λ (x : ℕ). ltb 0 x) (sym (left_none next u t k 0 d (sym e) refl))

  met_up : (k t v : ℕ) → (u ≡ t → ⊥) → next t ≡ suc v → met (suc k) t ≡ met k v
  met_up k t v d e =
      let same : left_at (only u) next k v ≡ left_at (only u) next (suc k - 1) (suc v - 1) = rw (less_one k, less_one v) in
      ap (λ (x : ℕ). ltb 0 x) (sym (left_up next u t (suc k) (suc v) (λ z. omega arith) d (sym e) (λ z. omega arith) same))

  met_follows : (k : ℕ) → ((t : ℕ) → t < n → met k t ≡ met (suc k) t) → (t : ℕ) → t < n → met (suc k) t ≡ met (suc (suc k)) t
  met_follows k s t l = equal_or_not u t (λ e. met-here k t e ∙ sym (met-here (suc k) t e)) (λ d. go d (next t) refl)
    where
      beyond : (j v : ℕ) → n ≤ v → met j v ≡ false
      beyond j v h = met-none j v (λ e. omega arith) (past v h)

      go : (u ≡ t → ⊥) → (b : ℕ) → next t ≡ b → met (suc k) t ≡ met (suc (suc k)) t
      go d zero e = met-none (suc k) t d e ∙ sym (met-none (suc (suc k)) t d e)
      go d (suc v) e = met_up k t v d e ∙ below_or_not v n (λ h. s v h) (λ h. beyond k v h ∙ sym (beyond (suc k) v h)) ∙ sym (met_up (suc k) t v d e)

  pub met_above : (t : ℕ) → t < n → ltb 0 (left_at (only u) next n t) ≡ eqb t u || climb next n u t
  met_above t l =
      bool_iff (met n t) (met (suc n) t) (met_grows n t) (by_n n met met_grows met_follows (suc n) t l) ∙ met-more next u n t
      ∙ or_comm (climb next n u t) (eqb u t) ∙ rw (flipped u t)

-- ---- one number more in a search
or-none : (b : Bool) (k r : ℕ) → or_else r (cond (b && false) (suc k) 0) ≡ r
or-none true k zero = refl
or-none true k (suc r) = refl
or-none false k zero = refl
or-none false k (suc r) = refl

or-one : (b : Bool) (k r : ℕ) → or_else r (cond (b && true) (suc k) 0) ≡ or_else r (cond b (suc k) 0)
or-one true k r = refl
or-one false k r = refl

or-cond : (b : Bool) (i x y : ℕ) → cond b (suc i) (or_else x y) ≡ or_else (cond b (suc i) x) y
or-cond true i x y = refl
or-cond false i x y = refl

pub first_more : (test : ℕ → Bool) (i n : ℕ) → first_from test i (suc n) ≡ or_else (first_from test i n) (cond (test (i + n)) (suc (i + n)) 0)
unfolding first_from
first_more test i zero = rw (add-zero i)
first_more test i (suc n) =
    let e : i + 1 + n ≡ i + suc n = omega arith in
    rw (first_more test (i + 1) n, e) (or-cond (test i) i (first_from test (i + 1) n) (cond (test (i + suc n)) (suc (i + suc n)) 0))

-- ---- declarations by owner and name, the first n of them
module _ (owner : ℕ → ℕ) (named : ℕ → Bool) where
  abbrev declared : ℕ → ℕ → ℕ
  declared n u = first_from (λ p. eqb (owner p) u && named p) 0 n

  declared_none : (u : ℕ) → declared 0 u ≡ 0
  unfolding first_from
  declared_none u = refl

  declared_more : (n u : ℕ) → declared (n + 1) u ≡ or_else (declared n u) (cond (eqb (owner n) u && named n) (suc n) 0)
  declared_more n u = rw (add-one n, first_more (λ p. eqb (owner p) u && named p) 0 n, zero-add n)

  -- The nearest of the first p declarations on the climb from t over `all` numbers: its number plus 1, and how many numbers are left at its owner.
  pub record Near (next : ℕ → ℕ) (all t p found near : ℕ) : Type 0 where
    pub most : found ≤ p
    pub is : found ≡ nearest (declared p) next all t
    pub left : near ≡ left_at (declared p) next all t

  module _ (next : ℕ → ℕ) (all t : ℕ) where
    pub near_start : Near next all t 0 0 0
    near_start =
        let none = no_nearest next (declared 0) declared_none all t in
        record { most = omega arith; is = sym none.0; left = sym none.1 }

    module _ (p found near : ℕ) (n : Near next all t p found near) where
      pub near_other : (b : Bool) → b ≡ named p → b ≡ false → Near next all t (p + 1) found near
      near_other b e h =
          let f : (u : ℕ) → declared (p + 1) u ≡ declared p u = λ u. declared_more p u ∙ rw (← e, h) (or-none (eqb (owner p) u) p (declared p u)) in
          let s = same-nearest next (declared p) (declared (p + 1)) f all t in
          record { most = omega (arith, n.most); is = n.is ∙ sym s.0; left = n.left ∙ sym s.1 }

      stands : (b : Bool) → b ≡ named p → b ≡ true → Moved p near (left_at (only (owner p)) next all t) (left_at (declared (p + 1)) next all t) found (nearest (declared (p + 1)) next all t)
      stands b e h =
          let f : (u : ℕ) → declared (p + 1) u ≡ or_else (declared p u) (cond (eqb (owner p) u) (suc p) 0) = λ u. declared_more p u ∙ rw (← e, h) (or-one (eqb (owner p) u) p (declared p u)) in
          rw (n.is, n.left) (moved next (declared p) (declared (p + 1)) (owner p) p f all t)

      pub near_nearer : (b : Bool) (l : ℕ) → b ≡ named p → b ≡ true → l ≡ left_at (only (owner p)) next all t → near < l → Near next all t (p + 1) (p + 1) l
      near_nearer b l e h q g =
          let m = (stands b e h).nearer (rw (← q) g) in
          record { most = omega arith; is = add-one p ∙ sym m.0; left = q ∙ sym m.1 }

      pub near_farther : (b : Bool) (l : ℕ) → b ≡ named p → b ≡ true → l ≡ left_at (only (owner p)) next all t → l ≤ near → Near next all t (p + 1) found near
      near_farther b l e h q g =
          let m = (stands b e h).farther (λ x. omega (arith, q, x, g)) in
          record { most = omega (arith, n.most); is = sym m.0; left = sym m.1 }

    -- Declarations that do not have the name, passed over.
    pub near_skip : (d k found near : ℕ) → Near next all t k found near → ((j : ℕ) → k ≤ j → j < k + d → named j ≡ false) → Near next all t (k + d) found near
    near_skip zero k found near n h = rw (add-zero k) n
    near_skip (suc d) k found near n h =
        let e : k + d + 1 ≡ k + suc d = omega arith in
        rw (← e) (near_other (k + d) found near (near_skip d k found near n (λ j a b. h j a (omega arith))) (named (k + d)) refl (h (k + d) (omega arith) (omega arith)))

    pub near_reach : (k p found near : ℕ) → k ≤ p → Near next all t k found near → ((j : ℕ) → k ≤ j → j < p → named j ≡ false) → Near next all t p found near
    near_reach k p found near l n h =
        let e : k + (p - k) ≡ p = omega arith in
        rw (← e) (near_skip (p - k) k found near n (λ j a b. h j a (omega arith)))
