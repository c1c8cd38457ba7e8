use Prim.Native.Nat.{◌-◌, ◌≤◌, ◌<◌}
use mathlib.Core.Path.{◌≡◌}
use lib.ListN.{length}
use Rattle.type_hierarchy.specs.Sets.{step_of}
use Rattle.type_hierarchy.proofs.Closing.{Going}
use Rattle.rules_required_cycle.proofs.cycles.go_through.Given as goal

abbrev pub invariant-loop-a : goal.invariant-loop-a
invariant-loop-a l = (l.a ≤ l.n) × (l.n ≤ 64) × (l.c < l.n) × (length l.rows ≡ 64) × Going 64 l.a l.c (step_of l.initial.rows) (step_of l.rows)

abbrev pub decreases-loop-a : goal.decreases-loop-a
decreases-loop-a l = l.n - l.a
