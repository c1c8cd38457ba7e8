use Rattle.std.proofs.Common.{◌+◌, refl, rules, tests}
use Rattle.csdl.specs.Climb.{climb}
use Rattle.csdl.proofs.Chains.{first_by_find}
use Rattle.instance_containment.specs.Graph.{entry}
use Rattle.instance_containment.proofs.first_by_climbs.Goals as goal

pub returns-clause-value : goal.returns-clause-value
returns-clause-value c = first_by_find _ (λ w. climb (entry c.args.holders.now) (c.args.n + 1) w w) _ refl c.find.ensures.ran (λ x b q k. search (rules, tests))
