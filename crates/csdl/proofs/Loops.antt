-- Searches from number i on, as a loop goes through them. Assumes nothing.
use Prim.Native.Nat.{ℕ, suc, ◌+◌, ◌-◌, ◌≤◌, ◌<◌}
use mathlib.Core.Path.{◌≡◌, ◌∙◌}
use mathlib.Core.Bool.{Bool, true, false}
use native.Mathlib.Nat.{sub-zero}
use native.Mathlib.Numerals.{add-one}
use native.Mathlib.Omega.{arith}
use Rattle.csdl.specs.Search.{first_from, any_from}

pub one_more : (n i : ℕ) → i < n → n - i ≡ suc (n - (i + 1))
one_more n i h = omega arith

pub none_left : (n i : ℕ) → n ≤ i → n - i ≡ 0
none_left n i h = omega arith

-- The search over n numbers, of which the first i did not pass.
pub record First (test : ℕ → Bool) (n i : ℕ) : Type 0 where
  pub most : i ≤ n
  pub rest : first_from test 0 n ≡ first_from test i (n - i)

pub record Any (test : ℕ → Bool) (n i : ℕ) : Type 0 where
  pub most : i ≤ n
  pub rest : any_from test 0 n ≡ any_from test i (n - i)

module _ (test : ℕ → Bool) (n : ℕ) where
  pub first-start : First test n 0
  first-start = record { most = omega arith; rest = rw (sub-zero n) }

  pub any-start : Any test n 0
  any-start = record { most = omega arith; rest = rw (sub-zero n) }

  module _ (i : ℕ) where
    pub first-hit : (r : Bool) → First test n i → i < n → r ≡ test i → r ≡ true → i + 1 ≡ first_from test 0 n
    unfolding first_from
    first-hit r l h e t = rw (l.rest, one_more n i h, ← e, t) (add-one i)

    pub first_next : (r : Bool) → First test n i → i < n → r ≡ test i → r ≡ false → First test n (i + 1)
    unfolding first_from
    first_next r l h e t = record { most = omega arith; rest = l.rest ∙ rw (one_more n i h, ← e, t) }

    pub first_end : First test n i → n ≤ i → 0 ≡ first_from test 0 n
    unfolding first_from
    first_end l h = rw (l.rest, none_left n i h)

    pub any-hit : (r : Bool) → Any test n i → i < n → r ≡ test i → r ≡ true → true ≡ any_from test 0 n
    unfolding any_from
    any-hit r l h e t = rw (l.rest, one_more n i h, ← e, t)

    pub any_next : (r : Bool) → Any test n i → i < n → r ≡ test i → r ≡ false → Any test n (i + 1)
    unfolding any_from
    any_next r l h e t = record { most = omega arith; rest = l.rest ∙ rw (one_more n i h, ← e, t) }

    pub any_end : Any test n i → n ≤ i → false ≡ any_from test 0 n
    unfolding any_from
    any_end l h = rw (l.rest, none_left n i h)

pub ruleset first = (first-start, first-hit, first_next, first_end)

pub ruleset any = (any-start, any-hit, any_next, any_end)
