use Rattle.model_image.specs.Read.{model_read}
use Prim.Native.Nat.{◌-◌, ◌≤◌}
use mathlib.Core.Path.{◌≡◌}
use lib.ListN.{length}
use Rattle.csdl.specs.Model.{in_run}
use Rattle.csdl.specs.Path.{path_of, holders}
use Rattle.rules_segments.proofs.Covering.{Tallied}
use Rattle.rules_segments.proofs.cover.cover_kind.Given as goal

abbrev pub invariant-loop-r : goal.invariant-loop-r
invariant-loop-r l = (l.r ≤ l.r-end) × (l.r-end ≤ 512) × (length l.cover ≡ length l.initial.cover) × Tallied (λ k g. in_run (path_of (model_read l.model) l.kind k) g) l.initial.cover l.cover l.r × (l.r-end ≡ holders (model_read l.model) l.kind)

abbrev pub decreases-loop-r : goal.decreases-loop-r
decreases-loop-r l = l.r-end - l.r
