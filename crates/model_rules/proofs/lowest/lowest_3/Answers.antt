use Rattle.std.proofs.Common.{ap, ◌∙◌, rules, tests}
use Rattle.csdl.specs.Form.{rule3}
use Rattle.csdl.specs.Verdict.{broken_at}
use Rattle.csdl.proofs.Chains.{first_by_find}
use Rattle.model_image.specs.Read.{model_read}
use Rattle.model_image.proofs.PlaceLaws.{record_in}
use Rattle.model_rules.specs.Stages.{lowest_place}
use Rattle.model_rules.proofs.lowest.lowest_3.Goals as goal

pub returns : goal.returns
unfolding lowest_place
returns c = first_by_find _ (broken_at (model_read c.args.model.now) rule3) _ (ap (λ p. p.end) c.places-places.ensures.value) c.find.ensures.ran (λ x b q k. search (rules, tests, record_in))
