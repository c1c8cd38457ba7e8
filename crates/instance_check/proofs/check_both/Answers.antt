use Rattle.std.proofs.Common.{arith}
use Rattle.instance_check.proofs.Both.{model_stops, instance_stops, goes_on}
use Rattle.instance_check.proofs.check_both.Goals as goal

pub returns-in_err-model-clause-value : goal.returns-in_err-model-clause-value
returns-in_err-model-clause-value c = let stops = model_stops c.args.model.now c.args.instance.now c.in_err-model.ensures.value in grind (arith, stops)

pub returns-in_err-instance-clause-value : goal.returns-in_err-instance-clause-value
returns-in_err-instance-clause-value c =
    let own = rw c.in_ok-model.ensures.model at c.in_err-instance.ensures.value in
    let stops = instance_stops c.args.model.now c.args.instance.now c.in_ok-model.ensures.value own in grind (arith, stops)

pub returns-clause-value : goal.returns-clause-value
returns-clause-value c =
    let own = rw c.in_ok-model.ensures.model at c.in_ok-instance.ensures.value in
    goes_on c.args.model.now c.args.instance.now c.in_ok-model.ensures.value own
