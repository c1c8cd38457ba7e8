use Prim.Native.Nat.{◌-◌, ◌≤◌, ◌<◌}
use mathlib.Core.Path.{◌≡◌}
use Rattle.path_resolution.specs.Coded.{run_of}
use Rattle.path_resolution.proofs.codes.run_of.Given as goal

abbrev pub invariant-loop-k : goal.invariant-loop-k
invariant-loop-k l = (l.run ≡ run_of l.codes l.first l.k) × (l.k ≤ l.n) × (l.n < 16) × (l.first < 2048)

abbrev pub decreases-loop-k : goal.decreases-loop-k
decreases-loop-k l = l.n - l.k
