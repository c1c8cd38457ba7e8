-- Where no node is held twice, a node is within itself just where the climb by the holders comes back to it. Assumes nothing.
use Prim.Native.Nat.{ℕ, zero, suc, ◌+◌, ◌-◌, ◌≤◌, ◌<◌}
use mathlib.Core.Path.{◌≡◌, refl, sym, ap₂, ◌∙◌}
use mathlib.Core.Bool.{Bool, true, false, cond, not, ◌&&◌, ◌||◌, false≢true, and-false, or-false}
use mathlib.Core.List.{List}
use native.Mathlib.Omega.{arith}
use native.Mathlib.Numerals.{add-one}
use lib.Dec.{eqb, ltb, leb, eqb-zero-suc, eqb-suc-zero, eqb-suc-suc}
use lib.ListN.{get_or}
use borrow.Author.Tests.{eqb-true, eq-eqb, ltb-true, ltb-false, leb-true, lt-ltb, le-ltb, le-leb}
use Rattle.csdl.specs.Search.{any_from, sum_from, count_from, one_if, if_found}
use Rattle.csdl.specs.Climb.{climb, rounds, reaches}
use Rattle.csdl.proofs.Climbing.{climb_grows}
use Rattle.instance_runs.specs.Tables.{Tabulates, to_two}
use Rattle.csdl.proofs.Logic.{less_one, bool_iff, and_cases, and_both, any_of, any_found, any_same, tab-at}
use Rattle.instance_containment.specs.Graph.{step_in, times_in, holder_from, within_in, node26_in}

same-suc : (x y : ℕ) → suc x ≡ suc y → x ≡ y
same-suc x y e = omega arith

just : (x : Bool) → cond x true false ≡ x
just true = refl
just false = refl

-- A run of one place, or none: the place before w.
pub run_any : (w b : ℕ) → (leb (w - 1) b && ltb b (w - 1 + one_if (not (eqb w 0)))) ≡ eqb w (suc b)
run_any zero b = rw (le-ltb b 0 (omega arith), and-false (leb 0 b)) (sym (eqb-zero-suc b))
run_any (suc x) b =
    rw (eqb-suc-zero x, less_one x, eqb-suc-suc x b)
    (bool_iff (leb x b && ltb b (x + 1)) (eqb x b)
    (λ e. eq-eqb x b (between (leb-true x b (and_cases (leb x b) (ltb b (x + 1)) e).0) (ltb-true b (x + 1) (and_cases (leb x b) (ltb b (x + 1)) e).1)))
    (λ e. there (eqb-true x b e)))
  where
    between : x ≤ b → b < x + 1 → x ≡ b
    between p q = omega arith

    there : x ≡ b → (leb x b && ltb b (x + 1)) ≡ true
    there z = and_both (leb x b) (ltb b (x + 1)) (le-leb x b (omega arith)) (lt-ltb b (x + 1) (omega arith))

-- Node w, and a node v.
module _ (from to : ℕ → ℕ) (w v : ℕ) where
  none_held : (n i : ℕ) → count_from (λ k. eqb (to k) (suc w)) i n ≡ 0
      → any_from (λ k. eqb (to k) (suc w) && eqb (from k) (suc v)) i n ≡ false
  unfolding any_from sum_from
  none_held zero i e = refl
  none_held (suc n) i e = go (eqb (to i) (suc w)) e (λ q. none_held n (i + 1) q)
    where
      go : (t : Bool) → one_if t + count_from (λ k. eqb (to k) (suc w)) (i + 1) n ≡ 0
          → (count_from (λ k. eqb (to k) (suc w)) (i + 1) n ≡ 0
          → any_from (λ k. eqb (to k) (suc w) && eqb (from k) (suc v)) (i + 1) n ≡ false)
          → cond (t && eqb (from i) (suc v)) true (any_from (λ k. eqb (to k) (suc w) && eqb (from k) (suc v)) (i + 1) n) ≡ false
      go true q ih = absurd (no (count_from (λ k. eqb (to k) (suc w)) (i + 1) n) q)
        where
          no : (x : ℕ) → 1 + x ≡ 0 → ⊥
          no x p = omega arith
      go false q ih = ih (omega (arith, q))

  -- Held by one item at most, w is held by v just where v is its holder.
  unique : (n i : ℕ) → count_from (λ k. eqb (to k) (suc w)) i n ≤ 1
      → any_from (λ k. eqb (to k) (suc w) && eqb (from k) (suc v)) i n ≡ eqb (holder_from from to w i n) (suc v)
  unfolding any_from sum_from holder_from
  unique zero i e = sym (eqb-zero-suc v)
  unique (suc n) i e = go (eqb (to i) (suc w)) e (λ q. unique n (i + 1) q) (λ q. none_held n (i + 1) q)
    where
      go : (t : Bool) → one_if t + count_from (λ k. eqb (to k) (suc w)) (i + 1) n ≤ 1
          → (count_from (λ k. eqb (to k) (suc w)) (i + 1) n ≤ 1
          → any_from (λ k. eqb (to k) (suc w) && eqb (from k) (suc v)) (i + 1) n ≡ eqb (holder_from from to w (i + 1) n) (suc v))
          → (count_from (λ k. eqb (to k) (suc w)) (i + 1) n ≡ 0
          → any_from (λ k. eqb (to k) (suc w) && eqb (from k) (suc v)) (i + 1) n ≡ false)
          → cond (t && eqb (from i) (suc v)) true (any_from (λ k. eqb (to k) (suc w) && eqb (from k) (suc v)) (i + 1) n)
          ≡ eqb (cond t (from i) (holder_from from to w (i + 1) n)) (suc v)
      go true q ih rest = rw (rest (omega (arith, q))) (just (eqb (from i) (suc v)))
      go false q ih rest = ih (omega (arith, q))

  pub held_once : (c : ℕ) → times_in to c w ≤ 1 → step_in from to c v w ≡ eqb (holder_from from to w 0 c) (suc v)
  unfolding times_in step_in
  held_once c h = unique c 0 h

pub holder-le : (from to : ℕ → ℕ) (w most : ℕ) → ((k : ℕ) → from k ≤ most) → (n i : ℕ) → holder_from from to w i n ≤ most
unfolding holder_from
holder-le from to w most h zero i = omega arith
holder-le from to w most h (suc n) i = go (eqb (to i) (suc w)) (holder-le from to w most h n (i + 1))
  where
    go : (t : Bool) → holder_from from to w (i + 1) n ≤ most → cond t (from i) (holder_from from to w (i + 1) n) ≤ most
    go true r = h i
    go false r = r

-- Steps that go up by `next` only: what is reached in rounds is what the climb finds.
module _ (next : ℕ → ℕ) where
  step_one : (x a : ℕ) → eqb x (suc a) ≡ if_found false (λ b. eqb b a || false) x
  step_one zero a = eqb-zero-suc a
  step_one (suc x) a = rw (eqb-suc-suc x a) (sym (or-false (eqb x a)))

  any_up : (f : ℕ → Bool) (n x : ℕ) → x ≤ n → any_from (λ c. f c && eqb x (suc c)) 0 n ≡ if_found false f x
  any_up f n zero h =
      bool_iff (any_from (λ c. f c && eqb 0 (suc c)) 0 n) false
      (λ e.
      let p = any_found (λ c. f c && eqb 0 (suc c)) 0 n e in
      sym (eqb-zero-suc p.0) ∙ (and_cases (f p.0) (eqb 0 (suc p.0)) p.3).1)
      (λ e. absurd (false≢true e))
  any_up f n (suc x) h =
      bool_iff (any_from (λ c. f c && eqb (suc x) (suc c)) 0 n) (f x)
      (λ e.
      let p = any_found (λ c. f c && eqb (suc x) (suc c)) 0 n e in
      let both = and_cases (f p.0) (eqb (suc x) (suc p.0)) p.3 in
      let z : x ≡ p.0 = same-suc x p.0 (eqb-true (suc x) (suc p.0) both.1) in
      rw z both.0)
      (λ e. any_of (λ c. f c && eqb (suc x) (suc c)) 0 n x (omega arith) (omega arith) (and_both (f x) (eqb (suc x) (suc x)) e (eq-eqb (suc x) (suc x) refl)))

  absorb : (x a : ℕ) (p q : ℕ → Bool) → ((b : ℕ) → p b ≡ true → q b ≡ true)
      → (if_found false (λ b. eqb b a || p b) x || if_found false q x) ≡ if_found false (λ b. eqb b a || q b) x
  absorb zero a p q f = refl
  absorb (suc u) a p q f = go (eqb u a) (p u) refl
    where
      go : (h r : Bool) → p u ≡ r → (h || r || q u) ≡ h || q u
      go true r e = refl
      go false true e = sym (f u e)
      go false false e = refl

  module _ (n : ℕ) (step : ℕ → ℕ → Bool) (bound : (b : ℕ) → b < n → next b ≤ n) (up : (a b : ℕ) → b < n → step a b ≡ eqb (next b) (suc a)) where
    rounds-climb : (k a b : ℕ) → b < n → get_or (rounds step n a k) b false ≡ climb next (suc k) a b
    unfolding rounds climb
    rounds-climb zero a b h = tab-at (step a) false n b h ∙ up a b h ∙ step_one (next b) a
    rounds-climb (suc k) a b h =
        tab-at (λ x. get_or (rounds step n a k) x false || any_from (λ c. get_or (rounds step n a k) c false && step c x) 0 n) false n b h
        ∙ ap₂ ◌||◌ (rounds-climb k a b h)
        (any_same (λ c. get_or (rounds step n a k) c false && step c b) (λ c. climb next (suc k) a c && eqb (next b) (suc c)) 0 n
        (λ c l m. ap₂ ◌&&◌ (rounds-climb k a c (omega arith)) (up c b h))
        ∙ any_up (λ c. climb next (suc k) a c) n (next b) (bound b h))
        ∙ absorb (next b) a (climb next k a) (climb next (suc k) a) (λ u. climb_grows next a k u)

    pub reaches-climb : (a : ℕ) → a < n → reaches step n a a ≡ climb next (suc n) a a
    unfolding reaches
    reaches-climb a h = rounds-climb n a a h

-- Where none of the n nodes is held twice, the climb shows which break rule 26.
pub once-node : (from to : ℕ → ℕ) (times holders : List ℕ) (c n w : ℕ) → w < n → n ≤ 256 → ((k : ℕ) → from k ≤ n)
    → Tabulates (λ b. to_two (times_in to c b)) 256 times
    → Tabulates (λ b. holder_from from to b 0 c) 256 holders
    → any_from (λ b. ltb 1 (get_or times b 0)) 0 n ≡ false
    → climb (λ b. get_or holders b 0) (n + 1) w w ≡ node26_in from to c n w
unfolding node26_in within_in
once-node from to times holders c n w l most bound t h none =
    rw (le-ltb 1 (times_in to c w) (once w l), add-one n)
    (sym
    (reaches-climb (λ b. get_or holders b 0) n (λ x y. step_in from to c x y)
    (λ b m. rw (h.at b (omega arith)) (holder-le from to b n bound c 0))
    (λ a b m. rw (h.at b (omega arith)) (held_once from to b a c (once b m)))
    w l))
  where
    once : (b : ℕ) → b < n → times_in to c b ≤ 1
    once b m = go (ltb 1 (get_or times b 0)) refl
      where
        go : (z : Bool) → ltb 1 (get_or times b 0) ≡ z → times_in to c b ≤ 1
        go true e = absurd (false≢true (sym none ∙ any_of (λ x. ltb 1 (get_or times x 0)) 0 n b (omega arith) (omega arith) e))
        go false e =
            let q : get_or times b 0 ≤ 1 = ltb-false 1 (get_or times b 0) e in
            let v : get_or times b 0 ≡ to_two (times_in to c b) = t.at b (omega arith) in
            omega (arith, q, v)
