use Prim.Native.Nat.{◌-◌, ◌*◌, ◌≤◌}
use mathlib.Core.Path.{◌≡◌}
use lib.ListN.{length}
use Rattle.path_resolution.specs.Written.{Written}
use Rattle.path_resolution.proofs.bytes.write_resolution.Given as goal

abbrev pub invariant-loop-g : goal.invariant-loop-g
invariant-loop-g l = (l.g ≤ l.n) × (2 * l.n ≤ length l.initial.out) × (length l.out ≡ length l.initial.out) × Written l.codes l.g l.initial.out l.out

abbrev pub decreases-loop-g : goal.decreases-loop-g
decreases-loop-g l = l.n - l.g
