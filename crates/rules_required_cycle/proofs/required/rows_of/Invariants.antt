use Prim.Native.Nat.{◌-◌, ◌≤◌}
use mathlib.Core.Bool.{◌&&◌}
use Rattle.csdl.specs.Search.{any_from}
use Rattle.type_hierarchy.specs.Sets.{member, Members, step_of}
use Rattle.rules_required_cycle.proofs.required.rows_of.Given as goal

abbrev pub invariant-loop-a : goal.invariant-loop-a
invariant-loop-a l = (l.a ≤ 64) × Members 64 l.row (λ u. any_from (λ b. member l.set b && step_of l.rows b u) 0 l.a)

abbrev pub decreases-loop-a : goal.decreases-loop-a
decreases-loop-a l = 64 - l.a
