use native.Mathlib.Omega.{arith}
use Rattle.enumeration_members.proofs.Halving.{between_start, between_up, between_down, between_end}
use Rattle.enumeration_members.proofs.names.position.Goals as goal

pub loop-low-init : goal.loop-low-init
loop-low-init c = (c.requires.1, between_start _ _ _ _ _, c.requires.0)

pub loop-low-preserved-then-earlier_before : goal.loop-low-preserved-then-earlier_before
loop-low-preserved-then-earlier_before c = (c.loop-low.invariant.0, between_up _ _ _ _ _ _ _ _ c.loop-low.invariant.1 (omega arith) (omega arith) _ c.earlier_before.ensures c.if-earlier_before.true, c.loop-low.invariant.2)

pub loop-low-preserved : goal.loop-low-preserved
loop-low-preserved c = (c.loop-low.invariant.0, between_down _ _ _ _ _ _ _ _ c.loop-low.invariant.1 (omega arith) (omega arith) _ c.earlier_before.ensures c.if-earlier_before.false, c.loop-low.invariant.2)

pub returns : goal.returns
returns c = rw (← c.member_type-t.ensures.0, ← c.text-name.ensures)
    (between_end _ _ _ _ _ _ _ c.loop-low.invariant.1 (omega arith))
