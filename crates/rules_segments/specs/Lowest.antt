-- The lowest number below a bound at which one of several tests passes, as a search that looks at one test after another has it.
use Rattle.std.specs.Prelude.{ℕ, ◌≤◌, ◌<◌, ◌≡◌, Bool, true, false}

-- `low` is the lowest number below `bound` that passes, or `bound` where none does.
pub record Lowest (test : ℕ → Bool) (bound low : ℕ) : Type 0 where
  pub most : low ≤ bound
  pub below : (g : ℕ) → g < low → test g ≡ false
  pub hit : low < bound → test low ≡ true
