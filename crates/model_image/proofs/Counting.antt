-- What is counted of the properties and children of a model. Assumes nothing.
use mathlib.Core.Path.{◌≡◌}
use Prim.Native.Nat.{◌≤◌}
use native.Mathlib.Omega.{arith}
use Rattle.std.proofs.Math.Nat.{min-eq_left, min-le_right}
use Rattle.csdl.specs.Model.{model_of}
use Rattle.csdl.specs.Tables.{property_count}
use Rattle.model_image.specs.Limits.{FewProperties}
use Rattle.model_image.specs.Read.{model_read}
use Rattle.model_image.specs.declared.model.Model.{Model}

pub most_properties : (m : Model) → (model_read m).properties ≤ 512
unfolding model_read
most_properties m = min-le_right _ 512

pub most_children : (m : Model) → (model_read m).children ≤ 64
unfolding model_read
most_children m = min-le_right _ 64

-- Where there are no more than rule 1 allows, all properties are counted.
pub all_properties : (m : Model) → FewProperties m.properties.now → (model_read m).properties ≡ property_count m.properties.now
unfolding model_read model_of
all_properties m few = min-eq_left (omega (arith, few))
