use Rattle.std.proofs.Common.{ap, ◌∙◌, rules, arith}
use Rattle.csdl.specs.Search.{found}
use Rattle.instance_image.specs.Read.{instance_read}
use Rattle.model_image.specs.Read.{model_read}
use Rattle.instance_runs.proofs.Fills.{tabulates}
use Rattle.instance_containment.proofs.Bridge.{few_slots, few_items, node_in_same, node_in_le, first_26_same}
use Rattle.instance_containment.proofs.first_26.Goals as goal

pub first_within-requires : goal.first_within-requires
first_within-requires c =
    (search rules, rw c.node_count.ensures.0 (node_in_le (instance_read c.args.instance.now) (few_slots _ c.requires.0) c.args.item_slots.now _ c.requires.1 (tabulates _ _ _ c.nodes_of_slots-slot_nodes.ensures)))

pub returns-clause-value : goal.returns-clause-value
returns-clause-value c =
    let i = instance_read c.args.instance.now in
    let same = node_in_same i (few_slots _ c.requires.0) c.args.item_slots.now _ c.requires.1 (tabulates _ _ _ c.nodes_of_slots-slot_nodes.ensures) in
    (rw (c.node_count.ensures.0, c.item_count.ensures.0) at c.first_within.ensures.value)
    ∙ ap found (first_26_same (model_read c.args.model.now) i _ _ (λ k h. same k (omega (arith, few_items c.args.instance.now, h))) (λ k h. c.held_nodes-to.ensures k h))
