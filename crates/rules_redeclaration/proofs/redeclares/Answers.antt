use mathlib.Core.Path.{◌≡◌, refl}
use mathlib.Core.Bool.{Bool, true, false, beq}
use Rattle.csdl.specs.Properties.{alike, redeclares}
use Rattle.rules_redeclaration.proofs.redeclares.Goals as goal

beq_alike : (a b : Bool) → beq a b ≡ alike a b
beq_alike true true = refl
beq_alike true false = refl
beq_alike false true = refl
beq_alike false false = refl

pub returns : goal.returns
unfolding redeclares
returns c = simp (
  c.property_navigation.ensures,
  c.property_navigation-2.ensures,
  c.is_above.ensures,
  c.property_type_ref.ensures.0,
  c.property_type_ref-2.ensures.0,
  c.property_collection.ensures,
  c.property_collection-2.ensures,
  c.property_nullable.ensures,
  c.property_nullable-2.ensures,
  c.property_contains.ensures,
  c.property_contains-2.ensures,
  beq_alike,
)
