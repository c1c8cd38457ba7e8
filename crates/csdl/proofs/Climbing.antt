-- The climb finds exactly the numbers above, and the nearest answer is found, where as many steps are left as there are numbers.
use Prim.Native.Nat.{ℕ, zero, suc, ◌+◌, ◌-◌, ◌≤◌, ◌<◌}
use mathlib.Core.Path.{◌≡◌, refl, sym, ap, ◌∙◌}
use mathlib.Core.Bool.{Bool, true, false, false≢true, cond, ◌||◌}
use mathlib.Core.Logic.{◌⊎◌, inl, inr}
use native.Mathlib.Nat.{add-suc, add-zero}
use native.Mathlib.Omega.{arith}
use lib.Dec.{eqb, eqb-suc-zero}
use borrow.Author.Tests.{eqb-true, eq-eqb}
use Rattle.csdl.specs.Search.{if_found, or_else}
use Rattle.csdl.specs.Climb.{climb, nearest, topmost}
use Rattle.csdl.proofs.Logic.{or_right}
use Rattle.csdl.proofs.Settle.{by_n}

-- a stands above t: it is the next of t, or above the next. `next t` is 0 for none, else the number above t plus 1.
pub data Above (next : ℕ → ℕ) (a : ℕ) : ℕ → Type 0 where
  is-next : {t : ℕ} → next t ≡ suc a → Above next a t
  of_next : {t u : ℕ} → next t ≡ suc u → Above next a u → Above next a t

-- What f makes of the number of a partial answer, by the test that there is none, as code asks it.
pub found_test : {A : Type 0} (d : A) (f : ℕ → A) (n : ℕ) → if_found d f n ≡ cond (eqb n 0) d (f (n - 1))
found_test d f zero = refl
found_test d f (suc k) = let o : suc k - 1 ≡ k = omega arith in rw (eqb-suc-zero k, o)

module _ (next : ℕ → ℕ) (left t : ℕ) where
  pub climb_test : (a : ℕ) → climb next (suc left) a t ≡ cond (eqb (next t) 0) false (eqb (next t - 1) a || climb next left a (next t - 1))
  unfolding climb
  climb_test a = found_test false (λ b. eqb b a || climb next left a b) (next t)

  pub nearest_test : (own : ℕ → ℕ) → nearest own next (suc left) t ≡ or_else (own t) (cond (eqb (next t) 0) 0 (nearest own next left (next t - 1)))
  unfolding nearest
  nearest_test own = ap (or_else (own t)) (found_test 0 (λ b. nearest own next left b) (next t))

  pub topmost_test : topmost next (suc left) t ≡ cond (eqb (next t) 0) t (topmost next left (next t - 1))
  unfolding topmost
  topmost_test = found_test t (λ b. topmost next left b) (next t)

module _ (next : ℕ → ℕ) (a : ℕ) where
  pub climb-none : (l t : ℕ) → next t ≡ 0 → climb next l a t ≡ false
  unfolding climb
  climb-none zero t e = refl
  climb-none (suc l) t e = rw e

  pub climb_up : (l t u : ℕ) → next t ≡ suc u → climb next (suc l) a t ≡ eqb u a || climb next l a u
  unfolding climb
  climb_up l t u e = rw e

  climb_out : (t : ℕ) → climb next 0 a t ≡ true → ⊥
  unfolding climb
  climb_out t h = false≢true h

  -- One step of the climb, by cases.
  step : {P : Type 0} (l t : ℕ) → climb next (suc l) a t ≡ true → ((u : ℕ) → next t ≡ suc u → u ≡ a → P)
      → ((u : ℕ) → next t ≡ suc u → climb next l a u ≡ true → P) → P
  step {P} l t h here there = go (next t) refl
    where
      pass : (u : ℕ) → next t ≡ suc u → (b : Bool) → eqb u a ≡ b → b || climb next l a u ≡ true → P
      pass u e true q r = here u e (eqb-true u a q)
      pass u e false q r = there u e r

      go : (v : ℕ) → next t ≡ v → P
      go zero e = absurd (false≢true (sym (climb-none (suc l) t e) ∙ h))
      go (suc u) e = pass u e (eqb u a) refl (sym (climb_up l t u e) ∙ h)

  -- What is found stands above, with any number of steps.
  pub climb_sound : (l t : ℕ) → climb next l a t ≡ true → Above next a t
  climb_sound zero t h = absurd (climb_out t h)
  climb_sound (suc l) t h = step l t h (λ u e q. is-next (e ∙ ap suc q)) (λ u e r. of_next e (climb_sound l u r))

  hit : (l t : ℕ) → next t ≡ suc a → climb next (suc l) a t ≡ true
  hit l t e = climb_up l t a e ∙ rw (eq-eqb a a refl)

  more : (l t u : ℕ) → next t ≡ suc u → climb next l a u ≡ true → climb next (suc l) a t ≡ true
  more l t u e r = climb_up l t u e ∙ or_right (eqb u a) (climb next l a u) r

  -- What stands above is found with enough steps.
  enough : {t : ℕ} → Above next a t → (l : ℕ) × (climb next l a t ≡ true)
  enough (is-next {t} e) = (1, hit 0 t e)
  enough (of_next {t} {u} e r) = let w = enough r in (suc w.0, more w.0 t u e w.1)

  pub climb_grows : (k t : ℕ) → climb next k a t ≡ true → climb next (suc k) a t ≡ true
  climb_grows zero t h = absurd (climb_out t h)
  climb_grows (suc k) t h = step k t h (λ u e q. hit (suc k) t (e ∙ ap suc q)) (λ u e r. more (suc k) t u e (climb_grows k u r))

  module _ (n : ℕ) (closed : (t : ℕ) → t < n → next t ≤ n) where
    follows : (k : ℕ) → ((t : ℕ) → t < n → climb next k a t ≡ climb next (suc k) a t) → (t : ℕ) → t < n → climb next (suc k) a t ≡ climb next (suc (suc k)) a t
    follows k s t l = go (next t) refl
      where
        go : (v : ℕ) → next t ≡ v → climb next (suc k) a t ≡ climb next (suc (suc k)) a t
        go zero e = climb-none (suc k) t e ∙ sym (climb-none (suc (suc k)) t e)
        go (suc u) e = climb_up k t u e ∙ ap (λ r. eqb u a || r) (s u (omega (arith, closed t l))) ∙ sym (climb_up (suc k) t u e)

    -- Where every number below n has none above it or one below n, what stands above is found with n steps.
    pub climb_found : (t : ℕ) → t < n → Above next a t → climb next n a t ≡ true
    climb_found t l r = let w = enough r in by_n n (λ k u. climb next k a u) climb_grows follows w.0 t l w.1

-- A partial answer is there.
abbrev there : ℕ → Bool
there zero = false
there (suc p) = true

there-suc : (x : ℕ) → there x ≡ true → (p : ℕ) × (x ≡ suc p)
there-suc zero e = absurd (false≢true e)
there-suc (suc p) e = (p, refl)

module _ (own next : ℕ → ℕ) where
  pub nearest-own : (l t p : ℕ) → own t ≡ suc p → nearest own next (suc l) t ≡ suc p
  unfolding nearest
  nearest-own l t p e = rw e

  pub nearest-none : (l t : ℕ) → own t ≡ 0 → next t ≡ 0 → nearest own next l t ≡ 0
  unfolding nearest
  nearest-none zero t e f = refl
  nearest-none (suc l) t e f = rw (e, f)

  pub nearest_up : (l t u : ℕ) → own t ≡ 0 → next t ≡ suc u → nearest own next (suc l) t ≡ nearest own next l u
  unfolding nearest
  nearest_up l t u e f = rw (e, f)

  nearest_out : (t : ℕ) → nearest own next 0 t ≡ 0
  unfolding nearest
  nearest_out t = refl

  -- One step of the search, by cases.
  data Case (t : ℕ) : Type 0 where
    has : (p : ℕ) → own t ≡ suc p → Case t
    top : own t ≡ 0 → next t ≡ 0 → Case t
    over : (u : ℕ) → own t ≡ 0 → next t ≡ suc u → Case t

  case : (t : ℕ) → Case t
  case t = go (own t) refl (next t) refl
    where
      go : (o : ℕ) → own t ≡ o → (b : ℕ) → next t ≡ b → Case t
      go zero e zero f = top e f
      go zero e (suc u) f = over u e f
      go (suc p) e b f = has p e

  -- What is found is the own answer of t, or of a number above t.
  pub nearest_sound : (l t p : ℕ) → nearest own next l t ≡ suc p → (u : ℕ) × (own u ≡ suc p) × ((u ≡ t) ⊎ Above next u t)
  nearest_sound zero t p e = absurd (let z = nearest_out t in omega arith)
  nearest_sound (suc l) t p e = go (case t) (λ u. nearest_sound l u p)
    where
      past : (u : ℕ) → next t ≡ suc u → (w : (x : ℕ) × (own x ≡ suc p) × ((x ≡ u) ⊎ Above next x u)) → Above next w.0 t
      past u b (x, o, inl q) = is-next (b ∙ ap suc (sym q))
      past u b (x, o, inr r) = of_next b r

      go : Case t → ((u : ℕ) → nearest own next l u ≡ suc p → (x : ℕ) × (own x ≡ suc p) × ((x ≡ u) ⊎ Above next x u))
          → (x : ℕ) × (own x ≡ suc p) × ((x ≡ t) ⊎ Above next x t)
      go (has q o) rest = (t, o ∙ sym (nearest-own l t q o) ∙ e, inl refl)
      go (top o b) rest = absurd (let z = nearest-none (suc l) t o b in omega arith)
      go (over u o b) rest = let w = rest u (sym (nearest_up l t u o b) ∙ e) in (w.0, w.1, inr (past u b w))

  -- An answer stays with more numbers.
  pub nearest-stays : (l t p : ℕ) → nearest own next l t ≡ suc p → nearest own next (suc l) t ≡ suc p
  nearest-stays zero t p e = absurd (let z = nearest_out t in omega arith)
  nearest-stays (suc l) t p e = go (case t) (λ u. nearest-stays l u p)
    where
      go : Case t → ((u : ℕ) → nearest own next l u ≡ suc p → nearest own next (suc l) u ≡ suc p) → nearest own next (suc (suc l)) t ≡ suc p
      go (has q o) rest = nearest-own (suc l) t q o ∙ sym (nearest-own l t q o) ∙ e
      go (top o b) rest = absurd (let z = nearest-none (suc l) t o b in omega arith)
      go (over u o b) rest = nearest_up (suc l) t u o b ∙ rest u (sym (nearest_up l t u o b) ∙ e)

  found_grows : (l t : ℕ) → there (nearest own next l t) ≡ true → there (nearest own next (suc l) t) ≡ true
  found_grows l t e = let w = there-suc (nearest own next l t) e in rw (nearest-stays l t w.0 w.1)

  module _ (n : ℕ) (closed : (t : ℕ) → t < n → next t ≤ n) where
    found_follows : (k : ℕ) → ((t : ℕ) → t < n → there (nearest own next k t) ≡ there (nearest own next (suc k) t)) → (t : ℕ) → t < n
        → there (nearest own next (suc k) t) ≡ there (nearest own next (suc (suc k)) t)
    found_follows k s t l = go (case t)
      where
        go : Case t → there (nearest own next (suc k) t) ≡ there (nearest own next (suc (suc k)) t)
        go (has q o) = ap there (nearest-own k t q o ∙ sym (nearest-own (suc k) t q o))
        go (top o b) = ap there (nearest-none (suc k) t o b ∙ sym (nearest-none (suc (suc k)) t o b))
        go (over u o b) = ap there (nearest_up k t u o b) ∙ s u (omega (arith, closed t l)) ∙ ap there (sym (nearest_up (suc k) t u o b))

    -- As many numbers as there are are enough: more find nothing else.
    pub nearest_enough : (l t : ℕ) → t < n → nearest own next (n + l) t ≡ nearest own next n t
    nearest_enough l t h = go (nearest own next n t) refl (nearest own next (n + l) t) refl
      where
        stays : (k p : ℕ) → nearest own next n t ≡ suc p → nearest own next (n + k) t ≡ suc p
        stays zero p e = rw add-zero e
        stays (suc k) p e = rw add-suc (nearest-stays (n + k) t p (stays k p e))

        go : (b : ℕ) → nearest own next n t ≡ b → (c : ℕ) → nearest own next (n + l) t ≡ c → nearest own next (n + l) t ≡ nearest own next n t
        go zero f zero e = e ∙ sym f
        go zero f (suc p) e =
            let z : there (nearest own next n t) ≡ true = by_n n (λ k u. there (nearest own next k u)) found_grows found_follows (n + l) t h (rw e) in
            absurd (let w = there-suc (nearest own next n t) z in omega arith)
        go (suc q) f c e = stays l q f ∙ sym f

    one_more : (t : ℕ) → t < n → nearest own next (suc n) t ≡ nearest own next n t
    one_more t h = let e : suc n ≡ n + 1 = omega arith in rw e (nearest_enough 1 t h)

    -- So with n numbers the answer is the own one, else that of the next.
    pub nearest-is-own : (t p : ℕ) → t < n → own t ≡ suc p → nearest own next n t ≡ suc p
    nearest-is-own t p l e = sym (one_more t l) ∙ nearest-own n t p e

    pub nearest-is_up : (t u : ℕ) → t < n → own t ≡ 0 → next t ≡ suc u → nearest own next n t ≡ nearest own next n u
    nearest-is_up t u l e f = sym (one_more t l) ∙ nearest_up n t u e f
