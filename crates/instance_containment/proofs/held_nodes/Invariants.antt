use Rattle.std.proofs.Common.{◌≡◌, ℕ, ◌<◌, get_or, length}
use Rattle.instance_image.specs.Read.{instance_read}
use Rattle.model_image.specs.Read.{model_read}
use Rattle.instance_containment.specs.Graph.{held_by}
use Rattle.instance_containment.proofs.held_nodes.Given as goal

abbrev pub invariant-loop-k : goal.invariant-loop-k
invariant-loop-k l = (length l.array ≡ 2048) × ((w : ℕ) → w < l.k → get_or l.array w 0 ≡ held_by (model_read l.model) (instance_read l.instance) w)
