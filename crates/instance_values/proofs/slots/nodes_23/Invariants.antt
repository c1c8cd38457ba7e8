use Rattle.csdl.specs.Conforms.{node23}
use Rattle.csdl.proofs.Loops.{First}
use Rattle.instance_image.specs.Read.{instance_read}
use Rattle.model_image.specs.Read.{model_read}
use Rattle.instance_values.specs.Rows.{Rows}
use Rattle.instance_values.proofs.slots.nodes_23.Given as goal

abbrev pub invariant-loop-v : goal.invariant-loop-v
invariant-loop-v l =
    First (λ u. node23 (model_read l.model) (instance_read l.instance) u) (instance_read l.instance).nodes l.v × Rows (model_read l.model) l.rows l.done
