use Rattle.csdl.specs.Model.Table.{type-table, child-table}
use Rattle.csdl.specs.Form.{rule7, type7a, child7b}
use Rattle.model_image.specs.Read.{model_read}
use Rattle.model_rules.specs.Stages.{lowest_place}
use Rattle.model_rules.proofs.Placed.{fits, placed, both_placed}
use Rattle.model_rules.proofs.Tables.{types-before}
use Rattle.model_rules.proofs.lowest.lowest_7.Goals as goal

pub place_in-of_type-requires : goal.place_in-of_type-requires
place_in-of_type-requires c = let t = c.args.model.now in
    fits t type-table (λ k. type7a (model_read t) k) c.types_at.ensures.0 c.first_type_7.ensures

pub place_in-requires : goal.place_in-requires
place_in-requires c = let t = c.args.model.now in
    fits t child-table (λ k. child7b (model_read t) k) c.children_at.ensures.0 c.first_child_7.ensures

pub returns : goal.returns
unfolding lowest_place rule7
returns c = let t = c.args.model.now in
    both_placed (model_read t) type-table child-table (λ k. type7a (model_read t) k) (λ k. child7b (model_read t) k) (types-before (model_read t))
    (placed t type-table (λ k. type7a (model_read t) k) c.types_at.ensures.0 c.first_type_7.ensures c.place_in-of_type.ensures)
    (placed t child-table (λ k. child7b (model_read t) k) c.children_at.ensures.0 c.first_child_7.ensures c.place_in.ensures) c.or.ensures
