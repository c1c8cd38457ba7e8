use Rattle.csdl.specs.Search.{found}
use Prim.Native.Nat.{ℕ, ◌<◌}
use mathlib.Core.Path.{ap, ◌∙◌}
use mathlib.Core.Bool.{Bool, ◌||◌}
use native.Mathlib.Omega.{arith}
use lib.Dec.{ltb}
use lib.ListN.{get_or}
use Rattle.csdl.proofs.Logic.{first-same}
use Rattle.instance_containment.specs.Graph.{node_in, entry, step_in, within_in}
use Rattle.instance_containment.specs.Rows.{in_row}
use Rattle.csdl.proofs.Reaching.{reaches_same}
use Rattle.instance_containment.proofs.rows.first_by_rows.Goals as goal

pub close_rows-requires : goal.close_rows-requires
close_rows-requires c = (c.step_rows-rows.ensures.size, c.requires)

pub first_in_rows-requires : goal.first_in_rows-requires
first_in_rows-requires c = (c.close_rows.ensures.size, c.requires)

pub returns-clause-value : goal.returns-clause-value
unfolding within_in
returns-clause-value c = let step : ℕ → ℕ → Bool = step_in (node_in c.args.item_slots.now c.args.slot_nodes.now) (entry c.args.to.now) c.args.c in
    c.first_in_rows.ensures.value
    ∙ ap found (first-same _ _ 0 c.args.n
    (λ w l h.
    let m : w < c.args.n = omega (arith, h) in
    ap (λ (x : Bool). ltb 1 (get_or c.args.times.now w 0) || x)
    (c.close_rows.ensures.row w w m m ∙ reaches_same (in_row c.step_rows-rows.result) step c.args.n (λ v u i j. c.step_rows-rows.ensures.row v u (omega (arith, c.requires)) (omega (arith, c.requires))) w w m)))
