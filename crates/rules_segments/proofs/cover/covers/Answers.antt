use Rattle.model_image.specs.Read.{model_read}
use mathlib.Core.Path.{◌≡◌, ◌∙◌}
use native.Mathlib.Omega.{arith}
use lib.ListN.{get_or}
use borrow.Author.Rules.{rules}
use Rattle.csdl.specs.Path.{kinds, kind_paths_with}
use Rattle.csdl.specs.declared.PathKind.TheVariants.{Partner}
use Rattle.rules_segments.proofs.Covering.{summed_start, summed_more, all_kinds}
use Rattle.rules_segments.proofs.cover.covers.Goals as goal

pub loop-kind-init : goal.loop-kind-init
loop-kind-init c = (search rules, summed_start (λ k g. kind_paths_with (model_read c.args.model.now) (get_or kinds k Partner) g))

pub cover_kind-requires : goal.cover_kind-requires
cover_kind-requires c = λ g h. omega (arith, (c.loop-kind.invariant.1 g (omega arith)).1)

pub loop-kind-preserved : goal.loop-kind-preserved
loop-kind-preserved c = (search rules, summed_more (λ k g. kind_paths_with (model_read c.args.model.now) (get_or kinds k Partner) g) c.loop-kind.cover c.cover_kind.new.cover c.loop-kind.kind-index c.loop-kind.invariant.1 (λ g h. c.cover_kind.ensures.1 g (omega arith)))

pub returns : goal.returns
returns c = let e : c.loop-kind.kind-index ≡ 6 = omega arith in
    λ g h. rw e at (c.loop-kind.invariant.1 g h).0 ∙ all_kinds (model_read c.args.model.now) g
