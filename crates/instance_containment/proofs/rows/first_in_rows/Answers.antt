use Rattle.std.proofs.Common.{◌||◌, ltb, get_or, refl, rules, tests}
use Rattle.csdl.proofs.Chains.{first_by_find}
use Rattle.instance_containment.specs.Rows.{in_row}
use Rattle.instance_containment.proofs.rows.first_in_rows.Goals as goal

pub returns-clause-value : goal.returns-clause-value
returns-clause-value c = first_by_find _ (λ w. ltb 1 (get_or c.args.times.now w 0) || in_row c.args.rows.now w w) _ refl c.find.ensures.ran (λ x b q k. search (rules, tests))
