use Prim.Native.Nat.{◌-◌}
use native.Mathlib.Omega.{arith}
use Rattle.instance_containment.specs.Graph.{node_in, entry}
use Rattle.instance_containment.proofs.RowLaws.{from_start, from_more, from_end_lem}
use Rattle.instance_containment.proofs.rows.step_rows.Goals as goal

pub loop-k-init : goal.loop-k-init
loop-k-init c = from_start _ _ _

pub put_step-requires : goal.put_step-requires
put_step-requires c = c.loop-k.invariant.size

pub loop-k-preserved : goal.loop-k-preserved
loop-k-preserved c =
    from_more (node_in c.args.item_slots.now c.args.slot_nodes.now) (entry c.args.to.now) c.args.c (c.loop-k.k - 1) c.loop-k.k _ _ c.loop-k.rows c.put_step.new.rows (omega arith) (omega arith) c.node_of.ensures c.read_at.ensures c.loop-k.invariant c.put_step.ensures

pub returns : goal.returns
returns c = from_end_lem (node_in c.args.item_slots.now c.args.slot_nodes.now) (entry c.args.to.now) c.args.c c.loop-k.k c.loop-k.rows (omega arith) c.loop-k.invariant
