-- Climbing from number to number, and reaching by steps. `next t` is 0 for none, else the number above t plus 1.
use Rattle.std.specs.Prelude.{ℕ, zero, suc, List, Bool, false, ◌&&◌, ◌||◌, eqb, get_or}
use Rattle.csdl.specs.Search.{any_from, tab, or_else, if_found}

-- a stands above t, found within so many steps.
unfoldable pub climb : (ℕ → ℕ) → ℕ → ℕ → ℕ → Bool
climb next zero a t = false
climb next (suc left) a t = if_found false (λ b. eqb b a || climb next left a b) (next t)

-- The answer of `own` at t, or at the nearest number above t that has one, within so many numbers; 0 for none.
unfoldable pub nearest : (ℕ → ℕ) → (ℕ → ℕ) → ℕ → ℕ → ℕ
nearest own next zero t = 0
nearest own next (suc left) t = or_else (own t) (if_found 0 (λ b. nearest own next left b) (next t))

-- The topmost number above t, or t itself, within so many steps.
unfoldable pub topmost : (ℕ → ℕ) → ℕ → ℕ → ℕ
topmost next zero t = t
topmost next (suc left) t = if_found t (λ b. topmost next left b) (next t)

-- Which of the numbers below n are reached from a in one step, and in so many further rounds.
unfoldable pub rounds : (ℕ → ℕ → Bool) → ℕ → ℕ → ℕ → List Bool
rounds step n a zero = tab (step a) 0 n
rounds step n a (suc k) =
    let before = rounds step n a k in
    tab (λ b. get_or before b false || any_from (λ c. get_or before c false && step c b) 0 n) 0 n

-- b is reached from a in one or more steps through numbers below n.
unfoldable pub reaches : (ℕ → ℕ → Bool) → ℕ → ℕ → ℕ → Bool
reaches step n a b = get_or (rounds step n a n) b false
