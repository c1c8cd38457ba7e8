use mathlib.Core.Path.{◌≡◌}
use native.Mathlib.Omega.{arith}
use lib.ListN.{length-set}
use Rattle.model_image.specs.Read.{model_read}
use Rattle.rules_required_cycle.proofs.Steps.{owned_start, owned_more}
use borrow.Author.Rules.{rules}
use Rattle.rules_required_cycle.proofs.required.own_rows.Goals as goal

pub loop-p-init : goal.loop-p-init
loop-p-init c = (search rules, search rules, owned_start _)

pub loop-p-preserved : goal.loop-p-preserved
loop-p-preserved c = (search rules, rw length-set c.loop-p.invariant.1, owned_more (model_read c.args.model.now) c.loop-p.p c.loop-p.rows c.property_owner-owner.result c.with_step.result c.loop-p.invariant.1 c.loop-p.invariant.2 c.property_owner-owner.ensures.1 c.property_owner-owner.ensures.0 c.with_step.ensures)

pub returns : goal.returns
returns c = let e : c.loop-p.p ≡ c.property_count-p-end.result = omega arith in
    rw c.property_count-p-end.ensures.0 at (rw e at c.loop-p.invariant.2)
