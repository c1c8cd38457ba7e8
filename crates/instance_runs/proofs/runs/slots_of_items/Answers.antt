use Rattle.std.proofs.Common.{rules, tests, ◌+◌}
use Rattle.csdl.specs.Conforms.{slot_of_item}
use Rattle.instance_image.specs.Read.{instance_read}
use Rattle.instance_runs.proofs.Fills.{first-left, tabulates-same, is_table}
use Rattle.instance_runs.proofs.runs.slots_of_items.Goals as goal

pub returns : goal.returns
unfolding slot_of_item
returns c =
    let run = (instance_read c.args.instance.now).slot_items in
    is_table _ _ _ (tabulates-same _ (c.over_runs.ensures run (λ v x. v + 1) (λ v r h p. search (rules, tests)) (λ v x y h p. search (rules, tests))) (λ k. rw c.slot_count.ensures.0 (first-left run k _ 0)))
