use Rattle.std.proofs.Common.{◌≡◌, ◌+◌, ◌-◌, sym, ◌∙◌, arith}
use native.Mathlib.Nat.{sub-zero}
use Rattle.type_hierarchy.proofs.Climb.{climb_out, climb_end, climb_met, climb_on}
use Rattle.instance_containment.specs.Graph.{entry}
use Rattle.instance_containment.proofs.climbs.Goals as goal

pub loop-step-init : goal.loop-step-init
loop-step-init c = rw (sub-zero c.args.left)

pub returns-in_default : goal.returns-in_default
returns-in_default c = climb_end (entry c.args.holders.now) _ (rw c.in_default.is at c.number_at.ensures) _ _ ∙ sym c.loop-step.invariant

pub returns-then-next-a : goal.returns-then-next-a
returns-then-next-a c = climb_met (entry c.args.holders.now) _ _ c.in-Some.ensures _ _ (λ q. omega (arith, q)) c.if-next-a.true ∙ sym c.loop-step.invariant

pub loop-step-preserved : goal.loop-step-preserved
loop-step-preserved c =
    let e : c.args.left - (c.loop-step._step + 1) ≡ c.args.left - c.loop-step._step - 1 = omega arith in
    c.loop-step.invariant ∙ sym (climb_on (entry c.args.holders.now) _ _ c.in-Some.ensures _ _ (λ q. omega (arith, q)) c.if-next-a.false (rw e))

pub returns : goal.returns
returns c = climb_out _ _ _ _ (omega arith) ∙ sym c.loop-step.invariant
