use Rattle.model_image.specs.Read.{model_read}
use mathlib.Core.Path.{◌≡◌, sym, ◌∙◌}
use mathlib.Core.Bool.{true, false, or-false}
use Rattle.csdl.specs.Properties as rules
use Rattle.type_hierarchy.specs.Sets.{member}
use Rattle.rules_required_cycle.proofs.required.with_step.Goals as goal

pub returns-then-required : goal.returns-then-required
returns-then-required c = let e : rules.required (model_read c.args.model.now) c.args.p ≡ true = sym c.required.ensures ∙ c.if-required.true in
    λ u h. rw (e, ← c.property_type_ref.ensures.0) (c.with_one.ensures u h)

pub returns : goal.returns
returns c = let e : rules.required (model_read c.args.model.now) c.args.p ≡ false = sym c.required.ensures ∙ c.if-required.false in
    λ u h. rw (e, or-false (member c.args.row u))
