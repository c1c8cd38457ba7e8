use Prim.Native.Nat.{◌+◌}
use lib.ListN.{get_or}
use Rattle.model_image.specs.Read.{model_read}
use Rattle.lookup.proofs.Chain.{Filled}
use Rattle.lookup.proofs.index.index_of.Given as goal

abbrev pub invariant-loop-p : goal.invariant-loop-p
invariant-loop-p l = Filled (λ q. get_or l.initial.index (512 + q) 0) (model_read l.model).properties l.initial.index l.p l.index l.later
