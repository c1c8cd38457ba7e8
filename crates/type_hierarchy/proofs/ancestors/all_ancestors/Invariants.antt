use Prim.Native.Nat.{◌-◌, ◌≤◌}
use mathlib.Core.Path.{◌≡◌}
use Rattle.csdl.specs.Tables.{type_base}
use Rattle.csdl.specs.Climb.{climb}
use Rattle.type_hierarchy.specs.AncestorSets.{rows_to}
use Rattle.type_hierarchy.proofs.ancestors.all_ancestors.Given as goal

abbrev pub invariant-loop-t : goal.invariant-loop-t
invariant-loop-t l = (l.t ≤ l.count) × (l.count ≤ 64) × (l.ancestors ≡ rows_to (λ t a. climb (λ u. type_base l.model.types.now u) l.count a t) l.t)

abbrev pub decreases-loop-t : goal.decreases-loop-t
decreases-loop-t l = l.count - l.t
