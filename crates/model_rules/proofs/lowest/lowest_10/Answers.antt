use Rattle.csdl.specs.Model.Table.{property-table}
use Rattle.csdl.specs.Properties.{property10}
use Rattle.model_image.specs.Read.{model_read}
use Rattle.model_rules.specs.Stages.{lowest_place}
use Rattle.model_rules.proofs.Placed.{fits, placed}
use Rattle.model_rules.proofs.lowest.lowest_10.Goals as goal

pub place_in-requires : goal.place_in-requires
place_in-requires c = let t = c.args.model.now in
    fits t property-table (λ k. property10 (model_read t) k) c.properties_at.ensures.0 c.first_10.ensures

pub returns : goal.returns
unfolding lowest_place
returns c = let t = c.args.model.now in
    placed t property-table (λ k. property10 (model_read t) k) c.properties_at.ensures.0 c.first_10.ensures c.place_in.ensures
