use Prim.Native.Nat.{◌+◌, ◌-◌}
use mathlib.Core.Path.{◌≡◌}
use Rattle.instance_image.specs.Read.{instance_read}
use Rattle.model_image.specs.Read.{model_read}
use Rattle.walk_items.proofs.Turns.{Turn}
use Rattle.walk_items.proofs.+walk_from.Given as goal

abbrev pub decreases-walk_from : goal.decreases-walk_from
decreases-walk_from l = l.here.left

abbrev pub invariant-loop-q : goal.invariant-loop-q
invariant-loop-q l =
    Turn (model_read l.hierarchy.model) (instance_read l.instance) l.here l.step l.initial.out l.out l.end l.opened l.q
    × (l.q-end ≡ l.step.first + l.step.count)

abbrev pub decreases-loop-q : goal.decreases-loop-q
decreases-loop-q l = l.q-end - l.q
