-- The rules 27 to 29 in order.
use Rattle.std.specs.Prelude.{ℕ, Bool, cond, Option, Some, None}

-- The number of the first that is broken, where each of the three is broken or not.
abbrev pub refusal : Bool → Bool → Bool → Option ℕ
refusal broken27 broken28 broken29 = cond broken27 (Some 27) (cond broken28 (Some 28) (cond broken29 (Some 29) None))
