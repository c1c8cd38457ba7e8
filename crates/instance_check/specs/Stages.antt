-- The lowest place of an instance that breaks a rule, and the table of the slots of its items.
use Rattle.std.specs.Prelude.{ℕ, Bool, List}
use Rattle.csdl.specs.Search.{first_from}
use Rattle.csdl.specs.Model.{Model}
use Rattle.csdl.specs.Instance.{Instance, instance_places}
use Rattle.csdl.specs.Conforms.{instance_broken_at, slot_of_item}
use Rattle.csdl.specs.declared.InstanceRecord.{InstanceRecord}
use Rattle.instance_runs.specs.Tables.{Tabulates}

-- The lowest place that breaks the rule: 0 for none, else the place plus 1.
unfoldable pub lowest_instance_place : Model → Instance → (Model → Instance → InstanceRecord → Bool) → ℕ
lowest_instance_place m i rule = first_from (instance_broken_at m i rule) 0 (instance_places i)

-- The array has for each item of the instance the slot whose run has it.
abbrev pub ItemSlots : Instance → List ℕ → Type 0
ItemSlots i array = Tabulates (λ k. slot_of_item i k) 2048 array
