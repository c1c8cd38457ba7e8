use Rattle.csdl.specs.Form.{schema6}
use Rattle.model_image.specs.Read.{model_read}
use Rattle.model_rules.specs.Stages.{lowest_place}
use Rattle.model_rules.proofs.Placed.{schema_placed}
use Rattle.model_rules.proofs.lowest.lowest_6.Goals as goal

pub returns : goal.returns
unfolding lowest_place
returns c = schema_placed (model_read c.args.model.now) (λ k. schema6 (model_read c.args.model.now) k) c.first_6.ensures
