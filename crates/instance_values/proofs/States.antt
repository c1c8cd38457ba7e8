-- The states of a slot by their numbers. Assumes nothing.
use Rattle.std.proofs.Common.{◌≡◌, ℕ, zero, suc, ◌<◌, refl, sym, ◌∙◌, Bool, not, ◌&&◌, ◌||◌, eqb, arith}
use mathlib.Core.Bool.{or-false}
use Rattle.csdl.specs.Kinds.{state_of}
use Rattle.instance_values.specs.States.{unlike_property}

pub property_state : (state : ℕ) (collection nullable : Bool) → state < 4
    → unlike_property (state_of state) collection nullable ≡ (eqb state 0 && (collection || not nullable) || eqb state 1 && collection || eqb state 2 && not collection)
property_state zero collection nullable h = sym (or-false _ ∙ or-false _)
property_state (suc zero) collection nullable h = sym (or-false _)
property_state (suc (suc zero)) collection nullable h = refl
property_state (suc (suc (suc zero))) collection nullable h = refl
property_state (suc (suc (suc (suc n)))) collection nullable h = absurd (omega arith)
