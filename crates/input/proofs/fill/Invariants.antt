-- What was read lies in the array, and each turn leaves less to fill.
use Rattle.std.proofs.Common.{◌≡◌, ◌-◌, ◌^◌, ◌≤◌, ◌<◌, length}
use Rattle.input.proofs.fill.Given as goal

abbrev pub invariant-loop-size : goal.invariant-loop-size
invariant-loop-size g l = (length l.array ≡ length l.initial.array) × (l.size ≤ length l.array) × (length l.array < 2 ^ 64)

abbrev pub decreases-loop-size : goal.decreases-loop-size
decreases-loop-size g l = length l.array - l.size
