use Rattle.model_image.specs.Read.{model_read}
use mathlib.Core.Path.{ap, ◌∙◌}
use mathlib.Core.Bool.{not}
use native.Mathlib.Omega.{arith}
use lib.Dec.{eqb}
use Rattle.std.proofs.Common.{rules, tests, get_or}
use Rattle.csdl.specs.Paths.{segment13}
use Rattle.csdl.specs.Search.{found}
use Rattle.csdl.proofs.Chains.{first_by_find}
use Rattle.csdl.proofs.Logic.{first-same}
use Rattle.rules_segments.proofs.Covering.{not_once}
use Rattle.rules_segments.proofs.cover.first_13.Goals as goal

pub returns : goal.returns
returns c =
    first_by_find _ (λ g. not (eqb (get_or c.covers-cover.result g 0) 1)) _ c.segment_count.ensures.0 c.find.ensures.ran (λ x b q k. search (rules, tests))
    ∙ ap found (first-same _ (λ g. segment13 (model_read c.args.model.now) g) 0 _ (λ g l h. not_once (model_read c.args.model.now) g _ (c.covers-cover.ensures g (omega (arith, c.segment_count.ensures.0, c.segment_count.ensures.1)))))
