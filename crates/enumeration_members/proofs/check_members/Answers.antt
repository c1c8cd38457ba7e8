use Rattle.std.proofs.Common.{◌≡◌, ◌∙◌}
use Rattle.std.proofs.lemmas.Result.{err_from_is_err_and}
use Rattle.csdl.specs.Image.{model_in}
use Rattle.csdl.specs.Members.{image_stages, members_answer, members_in, members_verdict}
use Rattle.csdl.specs.Verdict.{instance_means, verdict}
use Rattle.enumeration_members.proofs.check_members.Goals as goal

pub returns-in_err-read : goal.returns-in_err-read
unfolding members_answer instance_means
returns-in_err-read c = let p = err_from_is_err_and c.from_residual.result c.from_residual.ensures.1 in rw (p.1, p.2) (c.in_err-read.ensures.value _)

pub returns : goal.returns
unfolding members_answer
returns c =
    let each : instance_means c.check_30_and_31.result ≡ verdict 0 (image_stages c.args.members.now) (members_verdict (model_in c.args.model.now) (members_in c.args.members.now)) =
    rw (← c.in_ok-read.ensures.model) c.check_30_and_31.ensures in
    each ∙ c.in_ok-read.ensures.value _
