use Rattle.model_image.specs.Read.{model_read}
use Prim.Native.Nat.{◌≤◌}
use mathlib.Core.Path.{◌≡◌}
use lib.ListN.{length, get_or}
use Rattle.csdl.specs.Path.{kinds}
use Rattle.csdl.specs.Paths.{unresolved_of}
use Rattle.csdl.specs.declared.PathKind.TheVariants.{Partner}
use Rattle.rules_segments.specs.Kept.{Progress, PastKept}
use Rattle.rules_segments.proofs.Least.{Least}
use Rattle.rules_segments.proofs.unresolved.first_14.Given as goal

abbrev pub invariant-loop-kind : goal.invariant-loop-kind
invariant-loop-kind l = (l.n ≤ 1024) × (length l.codes ≡ length l.initial.codes) × Least (λ j g. unresolved_of (model_read l.lookup.hierarchy.model) (get_or kinds j Partner) g) l.n l.kind-index l.low × Progress (model_read l.lookup.hierarchy.model) l.codes l.kind-index × PastKept (model_read l.lookup.hierarchy.model) l.initial.codes l.codes
