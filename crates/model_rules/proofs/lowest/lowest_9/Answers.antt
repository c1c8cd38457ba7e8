use Rattle.csdl.specs.Model.Table.{type-table}
use Rattle.csdl.specs.Types.{type9}
use Rattle.model_image.specs.Read.{model_read}
use Rattle.model_rules.specs.Stages.{lowest_place}
use Rattle.model_rules.proofs.Placed.{fits, placed}
use Rattle.model_rules.proofs.lowest.lowest_9.Goals as goal

pub place_in-requires : goal.place_in-requires
place_in-requires c = let t = c.args.model.now in
    fits t type-table (λ k. type9 (model_read t) k) c.types_at.ensures.0 c.first_9.ensures

pub returns : goal.returns
unfolding lowest_place
returns c = let t = c.args.model.now in
    placed t type-table (λ k. type9 (model_read t) k) c.types_at.ensures.0 c.first_9.ensures c.place_in.ensures
