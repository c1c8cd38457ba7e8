use Rattle.csdl.specs.Model.Table.{property-table, child-table}
use Rattle.csdl.specs.Paths.{rule18, property18a, child18}
use Rattle.model_image.specs.Read.{model_read}
use Rattle.model_rules.specs.Stages.{lowest_place}
use Rattle.model_rules.proofs.Placed.{fits, placed, both_placed}
use Rattle.model_rules.proofs.Tables.{properties-before}
use Rattle.model_rules.proofs.lowest.lowest_18.Goals as goal

pub place_in-of_property-requires : goal.place_in-of_property-requires
place_in-of_property-requires c = let t = c.args.hierarchy.now.model in
    fits t property-table (λ k. property18a (model_read t) k) c.properties_at.ensures.0 c.first_property_18.ensures

pub place_in-requires : goal.place_in-requires
place_in-requires c = let t = c.args.hierarchy.now.model in
    fits t child-table (λ k. child18 (model_read t) k) c.children_at.ensures.0 c.first_child_18.ensures

pub returns : goal.returns
unfolding lowest_place rule18
returns c = let t = c.args.hierarchy.now.model in
    both_placed (model_read t) property-table child-table (λ k. property18a (model_read t) k) (λ k. child18 (model_read t) k) (properties-before (model_read t))
    (placed t property-table (λ k. property18a (model_read t) k) c.properties_at.ensures.0 c.first_property_18.ensures c.place_in-of_property.ensures)
    (placed t child-table (λ k. child18 (model_read t) k) c.children_at.ensures.0 c.first_child_18.ensures c.place_in.ensures) c.or.ensures
