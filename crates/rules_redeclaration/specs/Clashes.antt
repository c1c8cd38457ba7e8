-- The test that rule 11b puts to the properties of a name; the ancestors of the owner stand as a set.
use Rattle.std.specs.Prelude.{ℕ, Bool, not, ◌&&◌}
use Rattle.csdl.specs.Model.{Model}
use Rattle.csdl.specs.Properties.{redeclares}
use Rattle.type_hierarchy.specs.Sets.{member}

-- q, which has p's name, is of a type of the set, and p may not redeclare it.
unfoldable pub clashing : Model → ℕ → ℕ → ℕ → Bool
clashing m above p q = member above (m.owner q) && not (redeclares m p q)
