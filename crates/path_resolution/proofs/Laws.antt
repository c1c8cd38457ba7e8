-- Tables of a function as lists, and a path walked segment by segment. Assumes nothing.
use Prim.Native.Nat.{ℕ, zero, suc, ◌+◌, ◌-◌}
use mathlib.Core.Path.{◌≡◌, refl, ap}
use mathlib.Core.List.{◌∷◌}
use mathlib.Core.Bool.{Bool, true, false, cond, ◌&&◌, ◌||◌, and-true}
use native.Mathlib.Nat.{add-zero}
use native.Mathlib.Numerals.{add-one}
use native.Mathlib.Omega.{arith}
use Rattle.csdl.specs.Search.{tab, any_from, some, but_last, last_or}
use Rattle.csdl.specs.Path.{Segment, Step, along_all, along_end, along}
use Rattle.csdl.proofs.Logic.{tab-same}

-- ---- tables
module _ {A : Type 0} (g : ℕ → A) where
  pub tab_shift : (i n : ℕ) → tab g (i + 1) n ≡ tab (λ k. g (k + 1)) i n
  unfolding tab
  tab_shift i zero = refl
  tab_shift i (suc n) = rw (tab_shift (i + 1) n)

  pub but_last_tab : (i n : ℕ) → but_last (tab g i n) ≡ tab g i (n - 1)
  unfolding tab but_last
  but_last_tab i zero = refl
  but_last_tab i (suc zero) = refl
  but_last_tab i (suc (suc n)) =
      let e : suc (suc n) - 1 ≡ suc n = omega arith in
      let f : suc n - 1 ≡ n = omega arith in
      rw e (ap (λ l. g i ∷ l) (rw f at (but_last_tab (i + 1) (suc n))))

  pub last_tab : (d : A) (i n : ℕ) → last_or d (tab g i (suc n)) ≡ g (i + n)
  unfolding tab last_or
  last_tab d i zero = rw (add-zero i)
  last_tab d i (suc n) = let e : i + suc n ≡ i + 1 + n = omega arith in rw e (last_tab (g i) (i + 1) n)

or-cond : (b r : Bool) → (b || r) ≡ cond b true r
or-cond true r = refl
or-cond false r = refl

pub some-tab : {A : Type 0} (f : A → Bool) (g : ℕ → A) (i n : ℕ) → some f (tab g i n) ≡ any_from (λ k. f (g k)) i n
unfolding tab some any_from
some-tab f g i zero = refl
some-tab f g i (suc n) = rw (or-cond, some-tab f g (i + 1) n)

-- ---- a path walked: one segment more, and what is made of each segment
module _ (to : ℕ → Segment → ℕ) (seg : ℕ → Segment) where
  pub end_more : (t i n : ℕ) → along_end to t (tab seg i (suc n)) ≡ to (along_end to t (tab seg i n)) (seg (i + n))
  unfolding tab along_end
  end_more t i zero = rw (add-zero i)
  end_more t i (suc n) = let e : i + suc n ≡ i + 1 + n = omega arith in rw e (end_more (to t (seg i)) (i + 1) n)

  pub all_more : (ok : ℕ → Segment → Bool) (t i n : ℕ)
      → along_all ok to t (tab seg i (suc n)) ≡ (along_all ok to t (tab seg i n) && ok (along_end to t (tab seg i n)) (seg (i + n)))
  unfolding tab along_all along_end
  all_more ok t i zero = rw (add-zero i, and-true)
  all_more ok t i (suc n) =
      let e : i + suc n ≡ i + 1 + n = omega arith in
      rw (e, all_more ok (to t (seg i)) (i + 1) n) (and_assoc (ok t (seg i)) _ _)
    where
      and_assoc : (a b c : Bool) → (a && (b && c)) ≡ ((a && b) && c)
      and_assoc true b c = refl
      and_assoc false b c = refl

  pub steps_tab : (what : ℕ → Segment → Step) (t i n : ℕ)
      → along what to t (tab seg i n) ≡ tab (λ k. what (along_end to t (tab seg i k)) (seg (i + k))) 0 n
  unfolding tab along along_end
  steps_tab what t i zero = refl
  steps_tab what t i (suc n) =
      rw (steps_tab what (to t (seg i)) (i + 1) n, add-zero i, tab_shift (λ k. what (along_end to t (tab seg i k)) (seg (i + k))) 0 n)
      (ap (λ l. what t (seg i) ∷ l) (tab-same _ _ 0 n (λ k a b. rw (add-one k) (let e : i + suc k ≡ i + 1 + k = omega arith in rw e))))
