use Rattle.model_image.specs.Read.{model_read}
use Prim.Native.Nat.{◌-◌, ◌≤◌}
use mathlib.Core.Path.{◌≡◌}
use lib.ListN.{length}
use Rattle.csdl.specs.Path.{holders}
use Rattle.csdl.specs.Paths.{unresolved_in}
use Rattle.rules_segments.specs.Kept.{KindStep, PastKept}
use Rattle.rules_segments.proofs.Least.{Least}
use Rattle.rules_segments.proofs.unresolved.unresolved_of.Given as goal

abbrev pub invariant-loop-number : goal.invariant-loop-number
invariant-loop-number l = (l.number ≤ l.number-end) × (length l.codes ≡ length l.initial.codes) × (l.number-end ≡ holders (model_read l.lookup.hierarchy.model) l.kind) × Least (λ j g. unresolved_in (model_read l.lookup.hierarchy.model) l.kind g j) l.bound l.number l.low × KindStep (model_read l.lookup.hierarchy.model) l.kind l.number l.initial.codes l.codes × PastKept (model_read l.lookup.hierarchy.model) l.initial.codes l.codes

abbrev pub decreases-loop-number : goal.decreases-loop-number
decreases-loop-number l = l.number-end - l.number
