use Rattle.csdl.specs.Model.Table.{property-table}
use Rattle.csdl.specs.Properties.{property11}
use Rattle.model_image.specs.Read.{model_read}
use Rattle.model_rules.specs.Stages.{lowest_place}
use Rattle.model_rules.proofs.Placed.{fits, placed}
use Rattle.model_rules.proofs.lowest.lowest_11.Goals as goal

pub place_in-requires : goal.place_in-requires
place_in-requires c = let t = c.args.lookup.now.hierarchy.model in
    fits t property-table (λ k. property11 (model_read t) k) c.properties_at.ensures.0 c.first_11.ensures

pub returns : goal.returns
unfolding lowest_place
returns c = let t = c.args.lookup.now.hierarchy.model in
    placed t property-table (λ k. property11 (model_read t) k) c.properties_at.ensures.0 c.first_11.ensures c.place_in.ensures
