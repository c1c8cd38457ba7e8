use Rattle.std.proofs.Common.{◌||◌, refl, sym, ap, ◌∙◌, arith}
use mathlib.Core.Path.{ap₂}
use Rattle.csdl.specs.Search.{found}
use Rattle.csdl.proofs.Logic.{first-same}
use Rattle.instance_containment.specs.Graph.{node_in, entry, node26_in}
use Rattle.instance_containment.proofs.Bridge.{times_over}
use Rattle.instance_containment.proofs.Climbing.{once-node}
use Rattle.instance_containment.proofs.first_within.Goals as goal

pub returns-then-any_twice-clause-value : goal.returns-then-any_twice-clause-value
unfolding node26_in
returns-then-any_twice-clause-value c =
    let to = entry c.args.to.now in
    c.first_by_rows.ensures.value
    ∙ ap found (first-same _ _ 0 c.args.n (λ w l h. ap₂ ◌||◌ (times_over to c.args.c c.held_times-times.result c.held_times-times.ensures w (omega (arith, h, c.requires.0))) refl))

pub returns-clause-value : goal.returns-clause-value
unfolding node26_in
returns-clause-value c =
    let from = node_in c.args.item_slots.now c.args.slot_nodes.now in
    let to = entry c.args.to.now in
    c.first_by_climbs.ensures.value
    ∙ ap found (first-same _ _ 0 c.args.n
    (λ w l m. once-node from to c.held_times-times.result c.holders_of-holders.result c.args.c c.args.n w (omega (arith, m)) c.requires.0 c.requires.1 c.held_times-times.ensures c.holders_of-holders.ensures
    (sym c.any_twice.ensures ∙ c.if-any_twice.false)))
