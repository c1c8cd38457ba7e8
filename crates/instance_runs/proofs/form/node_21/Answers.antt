use Rattle.csdl.specs.Conforms.{node21a}
use Rattle.instance_runs.proofs.form.node_21.Goals as goal

pub returns : goal.returns
unfolding node21a
returns c = rw (c.node_spare.ensures.0, c.node_type.ensures.0, c.type_count.ensures.0, c.bad_run.ensures, c.slot_count.ensures.0, c.node_slots.ensures.0, c.node_slots.ensures.1)
