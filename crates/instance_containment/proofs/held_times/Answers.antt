use Rattle.std.proofs.Common.{ℕ, ◌+◌, sym, ◌∙◌, rules, tests}
use Rattle.csdl.specs.declared.Run.{Run}
use Rattle.instance_runs.specs.Tables.{to_two}
use Rattle.instance_runs.proofs.Fills.{count_left, tabulates-same}
use Rattle.instance_containment.specs.Graph.{held_run, entry}
use Rattle.instance_containment.proofs.Bridge.{times_run}
use Rattle.instance_containment.proofs.held_times.Goals as goal

pub returns : goal.returns
returns c =
    let run : ℕ → Run = (λ u. held_run (entry c.args.to.now) u) in
    tabulates-same _ (c.over_runs.ensures run (λ v x. to_two (x + 1)) (λ v r h p. search (rules, tests)) (λ v x y h p. search (rules, tests))) (λ w. count_left run w _ 0 ∙ sym (times_run (entry c.args.to.now) c.args.c w))
