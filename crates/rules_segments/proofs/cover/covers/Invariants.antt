use Rattle.model_image.specs.Read.{model_read}
use mathlib.Core.Path.{◌≡◌}
use lib.ListN.{length, get_or}
use Rattle.csdl.specs.Path.{kinds, kind_paths_with}
use Rattle.csdl.specs.declared.PathKind.TheVariants.{Partner}
use Rattle.rules_segments.proofs.Covering.{Summed}
use Rattle.rules_segments.proofs.cover.covers.Given as goal

abbrev pub invariant-loop-kind : goal.invariant-loop-kind
invariant-loop-kind l = (length l.cover ≡ 1024) × Summed (λ k g. kind_paths_with (model_read l.model) (get_or kinds k Partner) g) l.cover l.kind-index
