use Rattle.model_image.specs.Read.{model_read}
use Prim.Native.Nat.{◌-◌}
use Rattle.path_resolution.proofs.Turn.{Along}
use Rattle.path_resolution.proofs.resolve.resolve_path.Given as goal

abbrev pub invariant-loop-k : goal.invariant-loop-k
invariant-loop-k l = Along (model_read l.lookup.hierarchy.model) l.path.start l.path.first l.path.count l.codes l.taken l.t l.k

abbrev pub decreases-loop-k : goal.decreases-loop-k
decreases-loop-k l = l.path.count - l.k
