use Rattle.model_image.specs.Read.{model_read}
use Prim.Native.Nat.{ℕ}
use mathlib.Core.Path.{◌≡◌, refl, ap, ◌∙◌}
use native.Mathlib.Omega.{arith}
use lib.ListN.{get_or}
use Rattle.csdl.specs.Path.{kinds}
use Rattle.csdl.specs.Search.{first_from, found}
use Rattle.csdl.specs.Paths.{unresolved_of, segment14}
use Rattle.csdl.specs.declared.PathKind.TheVariants.{Partner}
use Rattle.rules_segments.proofs.Keeping.{progress_start, progress_more, all_coded}
use Rattle.rules_segments.proofs.Least.{least_start, least_more, lowest_14, lowest_found}
use borrow.Author.Rules.{rules}
use Rattle.rules_segments.proofs.unresolved.first_14.Goals as goal

pub loop-kind-init : goal.loop-kind-init
loop-kind-init c = (search rules, search rules, least_start (λ j g. unresolved_of (model_read c.args.lookup.now.hierarchy.model) (get_or kinds j Partner) g) c.segment_count-n.result, progress_start (model_read c.args.lookup.now.hierarchy.model) c.args.codes.now, λ g h. refl)

pub unresolved_of-low-requires : goal.unresolved_of-low-requires
unresolved_of-low-requires c = (c.requires.0, omega (arith, c.requires.1, c.loop-kind.invariant.1))

pub loop-kind-preserved : goal.loop-kind-preserved
loop-kind-preserved c = (search rules, search rules, least_more (λ j g. unresolved_of (model_read c.args.lookup.now.hierarchy.model) (get_or kinds j Partner) g) c.segment_count-n.result c.loop-kind.kind-index c.loop-kind.low c.unresolved_of-low.result c.loop-kind.invariant.2 c.unresolved_of-low.ensures.lowest, progress_more (model_read c.args.lookup.now.hierarchy.model) c.loop-kind.codes _ c.loop-kind.kind-index c.loop-kind.invariant.3 c.unresolved_of-low.ensures.kind_step, λ g h. c.unresolved_of-low.ensures.past_kept g h ∙ c.loop-kind.invariant.4 g h)

pub returns : goal.returns
returns c = let e : c.loop-kind.kind-index ≡ 6 = omega arith in record {
  value = c.then_some.ensures ∙ lowest_found (λ g. segment14 (model_read c.args.lookup.now.hierarchy.model) g) c.segment_count-n.result c.loop-kind.low (lowest_14 (model_read c.args.lookup.now.hierarchy.model) c.segment_count-n.result c.loop-kind.low (rw e at c.loop-kind.invariant.2)) ∙ ap (λ (k : ℕ). found (first_from (λ g. segment14 (model_read c.args.lookup.now.hierarchy.model) g) 0 k)) c.segment_count-n.ensures.0;
  coded = all_coded (model_read c.args.lookup.now.hierarchy.model) c.loop-kind.codes (rw e at c.loop-kind.invariant.3);
  codes_len_unchanged = (c.loop-kind.invariant.1, c.loop-kind.invariant.4);
}
