use Prim.Native.Nat.{ℕ}
use mathlib.Core.Path.{ap, ◌∙◌}
use mathlib.Core.List.{List}
use lib.ListN.{get_or}
use native.Mathlib.Omega.{arith}
use Rattle.std.proofs.Common.{Some}
use Rattle.csdl.specs.Model.{model_of}
use Rattle.csdl.specs.Tables.{type_base, type_count}
use Rattle.model_image.specs.Read.{model_read}
use Rattle.type_hierarchy.specs.Near.{left_at, only}
use Rattle.type_hierarchy.proofs.Climbing.{nearness_at}
use Rattle.lookup.proofs.Found.{means}
use Rattle.lookup.proofs.Looking.{Looking, on-start, on-reach, on_less, looking_start, looking_nearer, looking_farther}
use Rattle.lookup.proofs.names.find_among.Goals as goal
use Rattle.lookup.proofs.names.find_among.Goals.{In-Some, then-near-left, else-near-left}

-- The chain is at p.
at_some : (c : In-Some) → Looking c.args.lookup.now c.args.name.now c.args.t (Some c.in-Some.p) c.loop-at.nearest c.loop-at.near
at_some c = rw c.in-Some.is at c.loop-at.invariant

pub loop-at-init : goal.loop-at-init
loop-at-init c = looking_start _ _ _ _ (on-start _ _ _ c.requires.1)

pub next_alike-at-requires : goal.next_alike-at-requires
next_alike-at-requires c = omega (arith, (on-reach _ _ _ _ (at_some (goal.at.next_alike-at-requires c).In-Some).on).below, c.args.lookup.now.few_properties)

pub loop-at-smaller : goal.loop-at-smaller
loop-at-smaller c = rw c.in-Some.is (on_less _ _ _ _ (at_some (goal.at.loop-at-smaller c).In-Some).on _ c.next_alike-at.ensures)

pub loop-at-preserved : goal.loop-at-preserved
unfolding model_read model_of
loop-at-preserved c =
    let s = at_some (goal.at.loop-at-preserved c).In-Some in
    let left = ap (λ (l : List ℕ). get_or l c.property_owner.result 0) c.nearness_of-nearness.ensures
    ∙ nearness_at _ _ _ c.property_owner.result (omega (arith, c.property_owner.ensures.1))
    ∙ ap (λ (k : ℕ). left_at (only k) (λ u. type_base c.args.lookup.now.hierarchy.model.types.now u) (type_count c.args.lookup.now.hierarchy.model.types.now) c.args.t) c.property_owner.ensures.0 in
    elim c.if-near-left.branch [
      | then-near-left w ↦ rw (w.nearest-is, w.near-is) (looking_nearer _ _ _ _ _ _ s _ c.next_alike-at.ensures _ left w.if-near-left.true)
      | else-near-left w ↦ rw (w.nearest-is, w.near-is) (looking_farther _ _ _ _ _ _ s _ c.next_alike-at.ensures _ left w.if-near-left.false)
    ]

pub returns-clause-value : goal.returns-clause-value
returns-clause-value c = means _ _ _ _ _ (rw c.in_default.is at c.loop-at.invariant)
