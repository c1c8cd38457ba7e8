use Rattle.std.proofs.Common.{rules, tests}
use Rattle.csdl.proofs.Chains.{any_by_any}
use Rattle.model_image.specs.Read.{model_read}
use Rattle.rules_bindings.specs.Partners.{other_contains, shared_containment}
use Rattle.rules_bindings.proofs.partners.shared_containment.Goals as goal

pub returns-then-not-property_contains : goal.returns-then-not-property_contains
unfolding shared_containment
returns-then-not-property_contains c = rw (← c.property_contains.ensures, c.if-not-property_contains.true)

pub returns : goal.returns
unfolding shared_containment
returns c =
    rw (← c.property_contains.ensures, c.if-not-property_contains.false)
    (any_by_any _ (λ x. other_contains (model_read c.args.hierarchy.now.model) c.args.codes.now c.args.p x) _ c.property_count.ensures.0 c.any.ensures.ran (λ x b q k. search (rules, tests)))
