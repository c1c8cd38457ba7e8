-- A count that stops at 2; the states of a slot. Assumes nothing.
use Prim.Native.Nat.{ℕ, zero, suc, ◌<◌}
use mathlib.Core.Path.{◌≡◌, refl, sym, ◌∙◌}
use mathlib.Core.Bool.{Bool, true, false, not, ◌&&◌, ◌||◌, or-false}
use native.Mathlib.Omega.{arith}
use lib.Dec.{eqb}
use borrow.Author.Tests.{eqb-true, eqb-false, ne_eqb}
use Rattle.csdl.specs.Kinds.{state_of}
use Rattle.instance_runs.specs.Tables.{to_two}
use Rattle.instance_runs.specs.Clauses.{state_unlike}

-- It shows whether the count is 1.
pub two_one : (n : ℕ) → eqb (to_two n) 1 ≡ eqb n 1
two_one n = go (eqb n 1) refl
  where
    go : (b : Bool) → eqb n 1 ≡ b → eqb (to_two n) 1 ≡ eqb n 1
    go true e = let z : n ≡ 1 = eqb-true n 1 e in rw z
    go false e =
        let z : n ≡ 1 → ⊥ = eqb-false n 1 e in
        ne_eqb (to_two n) 1 (λ q. z (omega arith)) ∙ sym e

-- A state below 4 is none of the three just where it is 3.
pub unlike_state : (x : Bool) (state count : ℕ) → state < 4
    → (x || state_unlike (state_of state) count) ≡ (x || eqb state 3 || (eqb state 0 && not (eqb count 0) || eqb state 1 && not (eqb count 1)))
unlike_state true state count h = refl
unlike_state false zero count h = sym (or-false (not (eqb count 0)))
unlike_state false (suc zero) count h = refl
unlike_state false (suc (suc zero)) count h = refl
unlike_state false (suc (suc (suc zero))) count h = refl
unlike_state false (suc (suc (suc (suc n)))) count h = absurd (omega arith)
