use Rattle.std.proofs.Common.{ltb, get_or, refl, rules, tests}
use Rattle.csdl.proofs.Chains.{any_by_any}
use Rattle.instance_containment.proofs.any_twice.Goals as goal

pub returns : goal.returns
returns c = any_by_any _ (λ w. ltb 1 (get_or c.args.times.now w 0)) _ refl c.any.ensures.ran (λ x b q k. search (rules, tests))
