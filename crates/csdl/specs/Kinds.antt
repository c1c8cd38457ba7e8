-- The numbers that an image has for the kinds of type and the states of a slot.
use Rattle.std.specs.Prelude.{ℕ, cond, eqb, Option, Some, None}
use Rattle.csdl.specs.declared.TypeKind.{TypeKind}
use Rattle.csdl.specs.declared.TypeKind.TheVariants.{Entity, Complex, Enumeration, Definition}
use Rattle.csdl.specs.declared.SlotState.{SlotState}
use Rattle.csdl.specs.declared.SlotState.TheVariants.{Null, Single, Collection}

abbrev pub kind_number : TypeKind → ℕ
kind_number Entity = 0
kind_number Complex = 1
kind_number Enumeration = 2
kind_number Definition = 3

-- The state of a number; none above 2.
abbrev pub state_of : ℕ → Option SlotState
state_of n = cond (eqb n 0) (Some Null) (cond (eqb n 1) (Some Single) (cond (eqb n 2) (Some Collection) None))
