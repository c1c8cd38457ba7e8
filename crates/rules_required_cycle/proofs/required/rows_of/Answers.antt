use mathlib.Core.Path.{◌≡◌, ◌∙◌}
use mathlib.Core.Bool.{false}
use native.Mathlib.Omega.{arith}
use Rattle.type_hierarchy.proofs.SetLaws.{member-none}
use Rattle.rules_required_cycle.proofs.Gather.{gather_start, gather_next}
use borrow.Author.Rules.{rules}
use Rattle.rules_required_cycle.proofs.required.rows_of.Goals as goal

pub loop-a-init : goal.loop-a-init
loop-a-init c = (search rules, λ u h. member-none u ∙ gather_start false _)

pub loop-a-preserved : goal.loop-a-preserved
loop-a-preserved c = (search rules, λ u h. gather_next false _ c.loop-a.a _ _ (c.loop-a.invariant.1 u h) (c.with_row-row.ensures u h))

pub returns : goal.returns
returns c = let e : c.loop-a.a ≡ 64 = omega arith in
    rw e at c.loop-a.invariant.1
