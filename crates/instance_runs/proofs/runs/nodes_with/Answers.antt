use Rattle.std.proofs.Common.{rules, tests, ◌+◌}
use Rattle.csdl.specs.Conforms.{nodes_with}
use Rattle.instance_image.specs.Read.{instance_read}
use Rattle.instance_runs.specs.Tables.{to_two}
use Rattle.instance_runs.proofs.Fills.{count_left, tabulates-same}
use Rattle.instance_runs.proofs.runs.nodes_with.Goals as goal

pub returns : goal.returns
unfolding nodes_with
returns c =
    let run = (instance_read c.args.instance.now).node_slots in
    tabulates-same _ (c.over_runs.ensures run (λ v x. to_two (x + 1)) (λ v r h p. search (rules, tests)) (λ v x y h p. search (rules, tests))) (λ k. rw c.node_count.ensures.0 (count_left run k _ 0))
