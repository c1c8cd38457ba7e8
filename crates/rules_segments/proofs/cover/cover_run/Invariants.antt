use Prim.Native.Nat.{min, ◌+◌, ◌-◌, ◌≤◌}
use mathlib.Core.Path.{◌≡◌}
use lib.ListN.{length}
use Rattle.rules_segments.proofs.Covering.{Counted}
use Rattle.rules_segments.proofs.cover.cover_run.Given as goal

abbrev pub invariant-loop-g : goal.invariant-loop-g
invariant-loop-g l = (l.first ≤ l.g) × (l.g ≤ l.first + l.count) × (l.g-end ≡ min (length l.initial.cover) (l.first + l.count)) × (length l.cover ≡ length l.initial.cover) × Counted l.initial.cover l.cover l.first l.g

abbrev pub decreases-loop-g : goal.decreases-loop-g
decreases-loop-g l = l.g-end - l.g
