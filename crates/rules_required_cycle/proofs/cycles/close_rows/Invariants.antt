use Prim.Native.Nat.{◌-◌, ◌≤◌}
use Rattle.type_hierarchy.specs.Sets.{step_of}
use Rattle.type_hierarchy.proofs.Closing.{Reached}
use Rattle.rules_required_cycle.proofs.cycles.close_rows.Given as goal

abbrev pub invariant-loop-c : goal.invariant-loop-c
invariant-loop-c l = (l.c ≤ l.n) × (l.n ≤ 64) × Reached l.n l.c (step_of l.initial.rows) (step_of l.rows)

abbrev pub decreases-loop-c : goal.decreases-loop-c
decreases-loop-c l = l.n - l.c
