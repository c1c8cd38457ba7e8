use Prim.Native.Nat.{◌-◌, ◌^◌, ◌≤◌, ◌<◌}
use mathlib.Core.Path.{◌≡◌}
use Rattle.packed.specs.Field.{field_of}
use Rattle.packed.proofs.long_field.Given as goal

abbrev pub invariant-loop-done : goal.invariant-loop-done
invariant-loop-done l = (l.done ≤ l.width) × (l.r ≡ field_of l.s l.off l.done) × (l.r < 2 ^ l.done)

abbrev pub decreases-loop-done : goal.decreases-loop-done
decreases-loop-done l = l.width - l.done
