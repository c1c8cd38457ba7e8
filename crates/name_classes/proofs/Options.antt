-- What an answer of a search tells of the number that it is of. Assumes nothing.
use Prim.Native.Nat.{ℕ, zero, suc, ◌+◌, ◌≤◌, ◌<◌}
use mathlib.Core.Path.{◌≡◌, refl, sym}
use mathlib.Core.Bool.{Bool}
use native.Mathlib.Omega.{arith}
use Rattle.std.proofs.Common.{Option, Some, None, IfSome}
use Rattle.std.proofs.lemmas.Option.{none-some, same_Some}
use Rattle.csdl.specs.Search.{first_from, found}
use Rattle.csdl.proofs.Chains.{found_below}

pub found_none : (n : ℕ) → None ≡ found n → n ≡ 0
found_none zero e = refl
found_none (suc n) e = absurd (none-some n e)

pub found_some : (n k : ℕ) → Some k ≡ found n → n ≡ suc k
found_some zero k e = absurd (none-some k (sym e))
found_some (suc n) k e = rw (same_Some k n e)

-- The number that an answer is of, and a bound on what it finds.
abbrev pub number : Option ℕ → ℕ
number None = 0
number (Some k) = suc k

pub found_number : (r : Option ℕ) → r ≡ found (number r)
found_number None = refl
found_number (Some k) = refl

pub found_low : (test : ℕ → Bool) (n m : ℕ) → n ≤ m → IfSome (found (first_from test 0 n)) (λ k. k < m)
found_low test n m h = go (first_from test 0 n) (found_below test 0 n)
  where
    go : (r : ℕ) → IfSome (found r) (λ k. k < 0 + n) → IfSome (found r) (λ k. k < m)
    go zero l = tt
    go (suc k) l = omega (arith, l, h)
