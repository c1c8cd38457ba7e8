use Prim.Native.Nat.{◌-◌, ◌≤◌}
use mathlib.Core.Path.{◌≡◌}
use Rattle.type_hierarchy.proofs.AncestorSets.{bases_to}
use Rattle.type_hierarchy.proofs.ancestors.bases_of.Given as goal

abbrev pub invariant-loop-t : goal.invariant-loop-t
invariant-loop-t l = (l.t ≤ l.t-end) × (l.t-end ≤ 65) × (l.bases ≡ bases_to l.model.types.now l.t)

abbrev pub decreases-loop-t : goal.decreases-loop-t
decreases-loop-t l = l.t-end - l.t
