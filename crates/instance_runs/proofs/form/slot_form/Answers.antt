use Rattle.packed.proofs.Laws.{field_lt}
use Rattle.std.proofs.Common.{◌+◌, ◌*◌}
use Rattle.csdl.specs.Instance.{instance_of}
use Rattle.csdl.specs.Conforms.{count_unlike}
use Rattle.instance_image.specs.Read.{instance_read}
use Rattle.instance_runs.specs.Clauses.{slot_form}
use Rattle.instance_runs.proofs.Counts.{unlike_state}
use Rattle.instance_runs.proofs.form.slot_form.Goals as goal

pub returns : goal.returns
unfolding instance_read instance_of slot_form count_unlike
returns c =
    let slots = c.args.instance.now.slots.now in
    rw (c.slot_spare.ensures.0, c.slot_property.ensures.0, c.property_count.ensures.0, c.state_unlike.ensures, c.slot_state.ensures, c.bad_run.ensures, c.item_count.ensures.0, c.slot_items-run.ensures.0, c.slot_items-run.ensures.1, unlike_state _ _ _ (field_lt slots (40 * c.args.s + 9) 2))
