use mathlib.Core.Path.{◌≡◌}
use native.Mathlib.Omega.{arith}
use Prim.Native.Nat.{◌+◌, ◌-◌, ◌<◌}
use borrow.Author.Rules.{rules}
use Rattle.packed.specs.Bytes.{same}
use Rattle.csdl.specs.Model.{property_text}
use Rattle.csdl.specs.Walk.{slot_named}
use Rattle.instance_image.specs.Read.{instance_read}
use Rattle.model_image.specs.Read.{model_read}
use Rattle.walk_step.proofs.Named.{run_by_find, none_past}
use Rattle.walk_step.proofs.slot_named.Goals as goal

pub returns-in-Ok : goal.returns-in-Ok
unfolding slot_named
returns-in-Ok c =
    let m = model_read c.args.model.now in
    let i = instance_read c.args.instance.now in
    let run = c.node_slots-run.result in
    let n : run.first + run.count - run.first ≡ run.count = omega arith in
    rw (← c.in-Ok.ensures.1, ← c.node_slots-run.ensures.0, ← c.node_slots-run.ensures.1)
    (run_by_find _ (λ s. same (property_text m (i.slot_property s)) c.args.name.now) run.count n c.find.ensures.ran (λ x b q k. search rules))

pub returns-in-Err : goal.returns-in-Err
unfolding instance_read
returns-in-Err c =
    let i = c.args.instance.now in
    let no : c.args.v < 65536 → ⊥ = c.in-Err.ensures in
    none_past (model_read c.args.model.now) i.nodes.now i.slots.now i.items.now c.args.name.now c.args.v i.few_nodes (omega (arith, no))
