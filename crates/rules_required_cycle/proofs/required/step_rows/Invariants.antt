use Prim.Native.Nat.{ℕ, ◌-◌, ◌≤◌, ◌<◌}
use mathlib.Core.Path.{◌≡◌}
use lib.ListN.{length, get_or}
use Rattle.model_image.specs.Read.{model_read}
use Rattle.csdl.specs.Properties.{required_step}
use Rattle.type_hierarchy.specs.Sets.{Members}
use Rattle.rules_required_cycle.proofs.required.step_rows.Given as goal

abbrev pub invariant-loop-t : goal.invariant-loop-t
invariant-loop-t l =
    (l.t ≤ l.t-end) × (length l.rows ≡ 64) × ((w : ℕ) → w < l.t → Members 64 (get_or l.rows w 0) (λ u. required_step (model_read l.hierarchy.model) w u))

abbrev pub decreases-loop-t : goal.decreases-loop-t
decreases-loop-t l = l.t-end - l.t
