use mathlib.Core.Path.{ap, ◌∙◌}
use Rattle.demands.specs.Word.{word}
use Rattle.demands.proofs.Kept.{instance_owed}
use Rattle.portal.proofs.tour_check_instance.Goals as goal

pub returns : goal.returns
returns c = let all = instance_owed c.args.model.now c.args.instance.now (c.word_of.ensures ∙ ap word c.check_instance.ensures) in record { value = all.0; instance_promise = all.1 }
