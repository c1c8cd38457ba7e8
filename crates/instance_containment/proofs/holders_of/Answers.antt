use Rattle.std.proofs.Common.{sym, rules, tests}
use Rattle.instance_runs.proofs.Fills.{tabulates-same}
use Rattle.instance_containment.specs.Graph.{held_run, node_in, entry}
use Rattle.instance_containment.proofs.Bridge.{holder_run}
use Rattle.instance_containment.proofs.holders_of.Goals as goal

pub returns : goal.returns
returns c =
    let to = entry c.args.to.now in
    let from = node_in c.args.item_slots.now c.args.slot_nodes.now in
    tabulates-same _ (c.over_runs.ensures (λ u. held_run to u) (λ v x. from v) (λ v r h p. search (rules, tests)) (λ v x y h p. search (rules, tests))) (λ w. sym (holder_run from to w c.args.c 0))
