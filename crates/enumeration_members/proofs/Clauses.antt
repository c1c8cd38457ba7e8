-- Partial answers as options: 31b by the first member of the type, and what a loop finds. Assumes nothing.
use Rattle.std.proofs.Common.{◌≡◌, refl, sym, subst, add-one, ℕ, zero, suc, ◌+◌, Option, Some, None, MatchOption}
use mathlib.Core.Bool.{Bool, true, false, not, beq}
use Rattle.csdl.specs.Properties.{alike}
use Rattle.csdl.specs.Search.{first_from, if_found, found}

pub by_first : (test : ℕ → Bool) (f : ℕ) (first : Option ℕ) → first ≡ found f → MatchOption first (if_found false test f ≡ false) (λ s. if_found false test f ≡ test s)
by_first test zero first e = subst (λ o. MatchOption o (if_found false test 0 ≡ false) (λ s. if_found false test 0 ≡ test s)) (sym e) refl
by_first test (suc k) first e = subst (λ o. MatchOption o (if_found false test (suc k) ≡ false) (λ s. if_found false test (suc k) ≡ test s)) (sym e) refl

pub unlike : (a b : Bool) → not (beq a b) ≡ not (alike a b)
unlike true true = refl
unlike true false = refl
unlike false true = refl
unlike false false = refl

module _ (test : ℕ → Bool) (i n m : ℕ) (e : n ≡ m) where
  pub found_hit : i + 1 ≡ first_from test 0 n → Some i ≡ found (first_from test 0 m)
  found_hit h = rw (← e, ← h, add-one i)

  pub found_none : 0 ≡ first_from test 0 n → None ≡ found (first_from test 0 m)
  found_none h = rw (← e, ← h)
