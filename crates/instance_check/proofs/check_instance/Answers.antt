use Rattle.std.proofs.Common.{arith}
use Rattle.csdl.specs.Conforms.{instance_answer}
use Rattle.csdl.specs.Verdict.{instance_means}
use Rattle.instance_check.proofs.check_instance.Goals as goal

pub returns-in_err-check_both : goal.returns-in_err-check_both
unfolding instance_answer instance_means
returns-in_err-check_both c = let stops = c.in_err-check_both.ensures.value in grind (arith, stops)

pub returns : goal.returns
unfolding instance_answer instance_means
returns c = c.in_ok-check_both.ensures.value _
