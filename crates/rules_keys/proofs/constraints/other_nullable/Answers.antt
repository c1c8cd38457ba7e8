use Rattle.csdl.specs.Paths.{other_nullable}
use Rattle.rules_keys.proofs.Orders.{beq_alike}
use Rattle.rules_keys.proofs.constraints.other_nullable.Goals as goal

pub returns : goal.returns
unfolding other_nullable
returns c = simp (c.property_nullable.ensures, c.property_nullable-2.ensures, c.property_nullable-3.ensures, beq_alike)
