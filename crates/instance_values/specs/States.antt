-- Rule 24 by the state of a slot.
use Rattle.std.specs.Prelude.{Bool, false, not, ◌||◌, Option, Some, None}
use Rattle.csdl.specs.declared.SlotState.{SlotState}
use Rattle.csdl.specs.declared.SlotState.TheVariants.{Null, Single, Collection}

-- The state is not that of a property, by whether the property is a collection and whether it is nullable.
abbrev pub unlike_property : Option SlotState → Bool → Bool → Bool
unlike_property (Some Null) collection nullable = collection || not nullable
unlike_property (Some Single) collection nullable = collection
unlike_property (Some Collection) collection nullable = not collection
unlike_property None collection nullable = false
