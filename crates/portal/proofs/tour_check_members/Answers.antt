use mathlib.Core.Path.{ap, ◌∙◌}
use Rattle.demands.specs.Word.{word}
use Rattle.demands.proofs.Kept.{members_owed}
use Rattle.portal.proofs.tour_check_members.Goals as goal

pub returns : goal.returns
returns c = let all = members_owed c.args.model.now c.args.members.now (c.word_of.ensures ∙ ap word c.check_members.ensures) in record { value = all.0; members_promise = all.1 }
