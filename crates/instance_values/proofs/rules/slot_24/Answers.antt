use Rattle.std.proofs.Common.{◌+◌, ◌*◌}
use Rattle.packed.proofs.Laws.{field_lt}
use Rattle.csdl.specs.Instance.{instance_of}
use Rattle.csdl.specs.Conforms.{slot24}
use Rattle.instance_image.specs.Read.{instance_read}
use Rattle.instance_values.proofs.States.{property_state}
use Rattle.instance_values.proofs.rules.slot_24.Goals as goal

pub returns : goal.returns
unfolding instance_read instance_of slot24
returns c =
    rw (c.unlike_property.ensures, c.slot_state.ensures, c.property_collection.ensures, c.property_nullable.ensures, c.slot_property-p.ensures.0, property_state _ _ _ (field_lt c.args.instance.now.slots.now (40 * c.args.s + 9) 2))
