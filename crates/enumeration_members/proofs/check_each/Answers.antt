use Rattle.csdl.specs.Verdict.{instance_means}
use Rattle.enumeration_members.proofs.Verdicts.{answers}
use Rattle.enumeration_members.proofs.check_each.Goals as goal

pub returns-in-Some : goal.returns-in-Some
unfolding instance_means
returns-in-Some c = search answers

pub returns-in-Some-value : goal.returns-in-Some-value
unfolding instance_means
returns-in-Some-value c = search (answers, c.in_default.not-Some)

pub returns : goal.returns
unfolding instance_means
returns c = search (answers, c.in_default.not-Some, c.in_default-value.not-Some)
