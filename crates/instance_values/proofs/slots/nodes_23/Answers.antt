use Rattle.std.proofs.Common.{◌≡◌, true, sym, ap, ◌∙◌, arith}
use Rattle.csdl.specs.Search.{found}
use Rattle.csdl.proofs.Loops.{first-start, first-hit, first_next, first_end}
use Rattle.model_image.specs.Read.{model_read}
use Rattle.type_hierarchy.specs.Sets.{member}
use Rattle.instance_values.specs.Rows.{Rows}
use Rattle.instance_values.proofs.Slotted.{rows_start, row_made, row_kept, row_past, row_23, found-hit}
use Rattle.instance_values.proofs.slots.nodes_23.Goals as goal
use Rattle.instance_values.proofs.slots.nodes_23.Goals.{Joined-not-in_set, then-not-in_set, else-not-in_set}

-- The row of the node's type is there, kept or made.
row-there : (c : Joined-not-in_set) → Rows (model_read c.args.model.now) c.if-not-in_set.rows c.if-not-in_set.done × (member c.if-not-in_set.done c.node_type-t.result ≡ true)
row-there c =
    elim c.if-not-in_set.branch [
      | then-not-in_set w ↦ row_made _ _ _ _ _ _ _ c.loop-v.invariant.1 w.names_of-row.ensures.1 c.node_type-t.ensures.1 w.with_row-next.ensures w.with_one-done.ensures _ w.rows-is _ w.done-is
      | else-not-in_set w ↦ row_kept _ _ _ _ c.loop-v.invariant.1 (sym c.in_set.ensures ∙ w.if-not-in_set.false) _ w.rows-is _ w.done-is
    ]

pub loop-v-init : goal.loop-v-init
loop-v-init c = (first-start _ _, rows_start _)

pub in_set-requires : goal.in_set-requires
in_set-requires c = c.node_type-t.ensures.1

pub names_of-row-requires : goal.names_of-row-requires
names_of-row-requires c = (c.requires.0, omega (arith, c.node_type-t.ensures.1), c.requires.1)

pub with_row-next-requires : goal.with_row-next-requires
with_row-next-requires c = (c.loop-v.invariant.1.size, c.names_of-row.ensures.0, c.node_type-t.ensures.1)

pub unlike_run-requires : goal.unlike_run-requires
unlike_run-requires c =
    let j = row-there (goal.at.unlike_run-requires c).Joined-not-in_set in
    (omega (arith, j.0.size, c.node_type-t.ensures.1), c.property_count-all.ensures.1, c.node_slots.ensures.2, c.node_slots.ensures.3, row_past _ _ _ _ j.0 c.node_type-t.ensures.1 j.1 _ c.property_count-all.ensures.0)

pub returns-then-unlike_run-clause-value : goal.returns-then-unlike_run-clause-value
returns-then-unlike_run-clause-value c =
    let j = row-there (goal.at.returns-then-unlike_run-clause-value c).Joined-not-in_set in
    found-hit _ _ (first-hit _ _ _ _ c.loop-v.invariant.0 (rw (← c.node_count-v-end.ensures.0) c.loop-v-test.true) (row_23 _ _ _ _ j.0 c.node_type-t.ensures.1 j.1 _ _ _ _ c.property_count-all.ensures.0 c.property_count-all.ensures.1 c.node_type-t.ensures.0 (c.node_slots.ensures.0, c.node_slots.ensures.1) _ c.unlike_run.ensures) c.if-unlike_run.true)

pub loop-v-preserved : goal.loop-v-preserved
loop-v-preserved c =
    let j = row-there (goal.at.loop-v-preserved c).Joined-not-in_set in
    (first_next _ _ _ _ c.loop-v.invariant.0 (rw (← c.node_count-v-end.ensures.0) c.loop-v-test.true) (row_23 _ _ _ _ j.0 c.node_type-t.ensures.1 j.1 _ _ _ _ c.property_count-all.ensures.0 c.property_count-all.ensures.1 c.node_type-t.ensures.0 (c.node_slots.ensures.0, c.node_slots.ensures.1) _ c.unlike_run.ensures) c.if-unlike_run.false, j.0)

pub returns-clause-value : goal.returns-clause-value
returns-clause-value c = ap found (first_end _ _ _ c.loop-v.invariant.0 (omega (arith, c.node_count-v-end.ensures.0, c.loop-v-test.false)))
