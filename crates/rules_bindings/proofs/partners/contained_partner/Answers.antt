use mathlib.Core.Path.{◌≡◌, refl}
use mathlib.Core.Bool.{Bool, true, false, not, beq, cond}
use Rattle.rules_bindings.specs.Partners.{contained_partner}
use Rattle.rules_bindings.proofs.partners.contained_partner.Goals as goal

unlike_cond : (b w : Bool) → not (beq b w) ≡ cond w (not b) b
unlike_cond true true = refl
unlike_cond true false = refl
unlike_cond false true = refl
unlike_cond false false = refl

pub returns-then-not-property_contains : goal.returns-then-not-property_contains
unfolding contained_partner
returns-then-not-property_contains c = rw (← c.property_contains.ensures, c.if-not-property_contains.true)

pub returns : goal.returns
unfolding contained_partner
returns c = rw (
  ← c.property_contains.ensures,
  c.if-not-property_contains.false,
  c.property_nullable.ensures,
  c.top.ensures,
  c.top-2.ensures,
  c.property_owner.ensures.0,
  c.property_type_ref.ensures.0,
)
    (unlike_cond _ _)
