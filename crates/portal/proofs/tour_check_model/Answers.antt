use Rattle.demands.proofs.Kept.{model_owed}
use Rattle.portal.proofs.tour_check_model.Goals as goal

pub returns : goal.returns
returns c = let all = model_owed c.args.image.now c.args.resolution.now (rw (← c.check_model.ensures.result_value) c.word_of.ensures) c.check_model.ensures.resolution_after in record { value = all.0; resolution_after = all.1.0; model_promise = all.1.1 }
