-- Sets of numbers as one number: t is in the set where bit t is 1.
use Rattle.std.specs.Prelude.{ℕ, zero, suc, ◌+◌, ◌*◌, ◌/◌, ◌%◌, ◌^◌, ◌<◌, ◌≡◌, Bool, List, get_or, eqb}
use Rattle.csdl.specs.Search.{one_if}

unfoldable pub member : ℕ → ℕ → Bool
member set t = eqb (set / 2 ^ t % 2) 1

-- Below n, the set has the numbers that pass the test.
abbrev pub Members : ℕ → ℕ → (ℕ → Bool) → Type 0
Members n set test = (t : ℕ) → t < n → member set t ≡ test t

-- The numbers below n that pass the test.
unfoldable pub set_of : (ℕ → Bool) → ℕ → ℕ
set_of test zero = 0
set_of test (suc n) = one_if (test n) * 2 ^ n + set_of test n

-- Row a of a list of sets has the numbers that a steps to.
abbrev pub step_of : List ℕ → ℕ → ℕ → Bool
step_of rows a b = member (get_or rows a 0) b
