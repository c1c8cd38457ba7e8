use Rattle.demands.proofs.Kept.{walk_owed}
use Rattle.portal.proofs.tour_walk.Goals as goal

pub returns : goal.returns
returns c = let all = walk_owed c.args.model.now c.args.instance.now c.args.place c.args.path c.args.node c.args.results.now (rw (← c.walk.ensures.result_value) c.word_of.ensures) c.walk.ensures.results_after in record { value = all.0; results_after = all.1.0; result_bound = all.1.1.0; walk_promise = all.1.1.1 }
