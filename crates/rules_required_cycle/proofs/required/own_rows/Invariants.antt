use Prim.Native.Nat.{◌-◌, ◌≤◌}
use mathlib.Core.Path.{◌≡◌}
use lib.ListN.{length}
use Rattle.model_image.specs.Read.{model_read}
use Rattle.rules_required_cycle.specs.Steps.{Owned}
use Rattle.rules_required_cycle.proofs.required.own_rows.Given as goal

abbrev pub invariant-loop-p : goal.invariant-loop-p
invariant-loop-p l = (l.p ≤ l.p-end) × (length l.rows ≡ 64) × Owned (model_read l.model) l.p l.rows

abbrev pub decreases-loop-p : goal.decreases-loop-p
decreases-loop-p l = l.p-end - l.p
