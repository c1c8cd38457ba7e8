use Rattle.model_image.specs.Read.{model_read}
use Prim.Native.Nat.{◌<◌}
use mathlib.Core.Path.{◌≡◌, refl, ◌∙◌}
use native.Mathlib.Omega.{arith}
use Rattle.csdl.specs.Path.{holders}
use Rattle.csdl.specs.Paths.{unresolved_in}
use Rattle.rules_segments.proofs.Keeping.{kind-start, kind-more, path_past}
use Rattle.rules_segments.proofs.Least.{least_start, least_more, lowest_kind}
use borrow.Author.Rules.{rules}
use Rattle.rules_segments.proofs.unresolved.unresolved_of.Goals as goal

pub loop-number-init : goal.loop-number-init
loop-number-init c = (search rules, search rules, c.holder_count-number-end.ensures.0, least_start (λ j g. unresolved_in (model_read c.args.lookup.now.hierarchy.model) c.args.kind g j) c.args.bound, kind-start (model_read c.args.lookup.now.hierarchy.model) c.args.kind c.args.codes.now, λ g h. refl)

pub unresolved_in-low-requires : goal.unresolved_in-low-requires
unresolved_in-low-requires c = let there : c.loop-number.number < holders (model_read c.args.lookup.now.hierarchy.model) c.args.kind = rw (← c.loop-number.invariant.2) (search rules) in
    (c.requires.0, there, omega (arith, c.requires.1, c.loop-number.invariant.1))

pub loop-number-preserved : goal.loop-number-preserved
loop-number-preserved c = let there : c.loop-number.number < holders (model_read c.args.lookup.now.hierarchy.model) c.args.kind = rw (← c.loop-number.invariant.2) (search rules) in
    (search rules, search rules, c.loop-number.invariant.2, least_more (λ j g. unresolved_in (model_read c.args.lookup.now.hierarchy.model) c.args.kind g j) c.args.bound c.loop-number.number c.loop-number.low c.unresolved_in-low.result c.loop-number.invariant.3 c.unresolved_in-low.ensures.lowest, kind-more (model_read c.args.lookup.now.hierarchy.model) c.requires.0 c.args.kind c.loop-number.number there c.loop-number.codes _ c.unresolved_in-low.ensures.path_step c.args.codes.now c.loop-number.invariant.4, λ g h. path_past (model_read c.args.lookup.now.hierarchy.model) c.requires.0 c.args.kind c.loop-number.number there c.loop-number.codes _ c.unresolved_in-low.ensures.path_step g h ∙ c.loop-number.invariant.5 g h)

pub returns : goal.returns
returns c = let e : c.loop-number.number ≡ c.holder_count-number-end.result = omega arith in record {
  lowest = lowest_kind (model_read c.args.lookup.now.hierarchy.model) c.args.kind c.args.bound c.loop-number.number c.loop-number.low (e ∙ c.loop-number.invariant.2) c.loop-number.invariant.3;
  kind_step = rw (e, c.loop-number.invariant.2) at c.loop-number.invariant.4;
  past_kept = c.loop-number.invariant.5;
}
