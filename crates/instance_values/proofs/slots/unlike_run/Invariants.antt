use Rattle.instance_image.specs.Read.{instance_read}
use Rattle.instance_values.proofs.Slotted.{Slotted}
use Rattle.instance_values.proofs.slots.unlike_run.Given as goal

abbrev pub invariant-loop-k : goal.invariant-loop-k
invariant-loop-k l = Slotted (instance_read l.instance) l.n l.fn.run l.seen l.k
