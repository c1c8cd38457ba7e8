use Rattle.csdl.specs.Model.Table.{property-table}
use Rattle.csdl.specs.Paths.{property17}
use Rattle.model_image.specs.Read.{model_read}
use Rattle.model_rules.specs.Stages.{lowest_place}
use Rattle.model_rules.proofs.Placed.{fits, placed}
use Rattle.model_rules.proofs.Coded.{properties_17}
use Rattle.model_rules.proofs.lowest.lowest_17.Goals as goal

pub place_in-requires : goal.place_in-requires
place_in-requires c = let t = c.args.hierarchy.now.model in
    fits t property-table (λ k. property17 (model_read t) k) c.properties_at.ensures.0 (properties_17 t c.requires c.first_17.ensures)

pub returns : goal.returns
unfolding lowest_place
returns c = let t = c.args.hierarchy.now.model in
    placed t property-table (λ k. property17 (model_read t) k) c.properties_at.ensures.0 (properties_17 t c.requires c.first_17.ensures) c.place_in.ensures
