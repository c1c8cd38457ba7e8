-- Loops that go through all numbers: what `any_from` is, with one number more.
use Prim.Native.Nat.{ℕ, ◌+◌}
use mathlib.Core.Path.{◌≡◌, sym}
use mathlib.Core.Bool.{Bool, ◌||◌, or-false, or_assoc}
use native.Mathlib.Numerals.{add-one}
use native.Mathlib.Omega.{arith}
use Rattle.csdl.specs.Search.{any_from}
use Rattle.type_hierarchy.proofs.Owners.{any_last}

-- A loop that goes through all numbers: `has`, or one of the first n passes.
pub gather_start : (has : Bool) (test : ℕ → Bool) → has ≡ has || any_from test 0 0
unfolding any_from
gather_start has test = sym (or-false has)

pub gather_next : (has : Bool) (test : ℕ → Bool) (n : ℕ) (s r : Bool) → s ≡ has || any_from test 0 n → r ≡ s || test n → r ≡ has || any_from test 0 (n + 1)
gather_next has test n s r e q =
    let z : 0 + n ≡ n = omega arith in
    rw (q, e, add-one n, any_last test 0 n, z) (or_assoc has (any_from test 0 n) (test n))
