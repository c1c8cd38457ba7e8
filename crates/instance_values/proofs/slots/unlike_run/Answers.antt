use Rattle.std.proofs.Common.{arith}
use Rattle.instance_values.proofs.Slotted.{slotted_start, slotted_past, slotted_wrong, slotted_more, slotted_end}
use Rattle.instance_values.proofs.slots.unlike_run.Goals as goal
use Rattle.instance_values.proofs.slots.unlike_run.Goals.{then-p-n+else-in_wide, else-p-n}

pub loop-k-init : goal.loop-k-init
loop-k-init c = slotted_start _ c.args.rows.now c.args.from _ _ c.requires.1

pub in_wide-requires : goal.in_wide-requires
in_wide-requires c = (c.slot_property-p.ensures.1, c.requires.0)

pub in_wide-requires-then-p-n : goal.in_wide-requires-then-p-n
in_wide-requires-then-p-n c = (c.slot_property-p.ensures.1, omega (arith, c.loop-k.invariant.size))

pub returns-then-in_wide : goal.returns-then-in_wide
returns-then-in_wide c = slotted_wrong _ _ _ _ _ c.requires.1 _ _ c.loop-k.invariant c.loop-k-test.true _ c.slot_property-p.ensures.0 c.if-p-n.true _ _ c.in_wide.ensures c.in_wide-then-p-n.ensures c.if-in_wide.true

pub with_wide-next-requires : goal.with_wide-next-requires
with_wide-next-requires c = (c.loop-k.invariant.size, c.slot_property-p.ensures.1)

pub loop-k-preserved : goal.loop-k-preserved
loop-k-preserved c =
    elim c.if-p-n.branch [
      | then-p-n+else-in_wide w ↦ rw w.seen-is (slotted_more _ c.args.rows.now c.args.from _ _ c.requires.1 _ _ c.loop-k.invariant c.loop-k-test.true _ c.slot_property-p.ensures.0 w.if-p-n.true _ _ w.in_wide.ensures w.in_wide-then-p-n.ensures w.if-in_wide.false _ w.with_wide-next.ensures.0 w.with_wide-next.ensures.1)
      | else-p-n w ↦ rw w.seen-is (slotted_past _ c.args.rows.now c.args.from _ _ c.requires.1 _ _ c.loop-k.invariant c.loop-k-test.true _ c.slot_property-p.ensures.0 w.if-p-n.false)
    ]

pub unlike-requires : goal.unlike-requires
unlike-requires c = (c.loop-k.invariant.size, c.requires.0)

pub returns : goal.returns
returns c = slotted_end _ _ _ _ _ c.requires.1 _ _ c.requires.4 (omega arith) c.loop-k.invariant _ c.unlike.ensures
