use mathlib.Core.Path.{◌≡◌}
use native.Mathlib.Omega.{arith}
use Rattle.model_image.specs.Read.{model_read}
use Rattle.csdl.specs.Model.{model_of}
use Rattle.type_hierarchy.proofs.Owners.{owners_none, owners_more}
use Rattle.type_hierarchy.proofs.key_owners.key_owners.Goals as goal

pub loop-k-init : goal.loop-k-init
loop-k-init c = (omega arith, owners_none _)

pub loop-k-preserved : goal.loop-k-preserved
unfolding model_read model_of
loop-k-preserved c = (omega arith, owners_more _ c.loop-k.k _ c.loop-k.owners _ c.key_owner.ensures.0 c.loop-k.invariant.1 c.with_one-owners.ensures)

pub returns : goal.returns
unfolding model_read model_of
returns c = let e : c.loop-k.k ≡ c.key_count-k-end.result = omega arith in
    rw (← c.key_count-k-end.ensures.0) (rw e at c.loop-k.invariant.1)
