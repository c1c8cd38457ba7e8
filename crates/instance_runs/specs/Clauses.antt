-- Clauses of rule 21, as functions of the check answer them.
use Rattle.std.specs.Prelude.{ℕ, Bool, true, false, not, ◌||◌, eqb, ltb, Option, Some, None}
use Rattle.csdl.specs.declared.SlotState.{SlotState}
use Rattle.csdl.specs.declared.SlotState.TheVariants.{Null, Single, Collection}
use Rattle.csdl.specs.Model.{Model}
use Rattle.csdl.specs.Form.{run4cd}
use Rattle.csdl.specs.Instance.{Instance}
use Rattle.csdl.specs.Conforms.{count_unlike}

-- The state is none, or the item count is unlike it.
abbrev pub state_unlike : Option SlotState → ℕ → Bool
state_unlike (Some Null) count = not (eqb count 0)
state_unlike (Some Single) count = not (eqb count 1)
state_unlike (Some Collection) count = false
state_unlike None count = true

-- 21b of a slot, but for the nodes whose run has it.
unfoldable pub slot_form : Model → Instance → ℕ → Bool
slot_form m i s =
    not (eqb (i.slot_spare s) 0) || not (ltb (i.slot_property s) m.properties) || eqb (i.state s) 3 || count_unlike i s
    || run4cd i.items (i.slot_items s)
