use Rattle.csdl.specs.Paths.{same_shape}
use Rattle.rules_keys.proofs.Orders.{beq_alike}
use Rattle.rules_keys.proofs.constraints.same_shape.Goals as goal

pub returns : goal.returns
unfolding same_shape
returns c = simp (c.property_type_ref.ensures.0, c.property_type_ref-2.ensures.0, c.property_collection.ensures, c.property_collection-2.ensures, beq_alike)
