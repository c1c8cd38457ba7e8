use Rattle.instance_containment.specs.Graph.{node_in, entry}
use Rattle.instance_containment.specs.Rows.{Steps}
use Rattle.instance_containment.proofs.RowLaws.{steps_from}
use Rattle.instance_containment.proofs.rows.step_rows.Given as goal

abbrev pub invariant-loop-k : goal.invariant-loop-k
invariant-loop-k l = Steps (steps_from (node_in l.item_slots l.slot_nodes) (entry l.to) l.c l.k) l.rows
