use Rattle.csdl.specs.Model.Table.{segment-table}
use Rattle.csdl.specs.Paths.{segment13}
use Rattle.model_image.specs.Read.{model_read}
use Rattle.model_rules.specs.Stages.{lowest_place}
use Rattle.model_rules.proofs.Placed.{fits, placed}
use Rattle.model_rules.proofs.lowest.lowest_13.Goals as goal

pub place_in-requires : goal.place_in-requires
place_in-requires c = let t = c.args.model.now in
    fits t segment-table (λ k. segment13 (model_read t) k) c.segments_at.ensures.0 c.first_13.ensures

pub returns : goal.returns
unfolding lowest_place
returns c = let t = c.args.model.now in
    placed t segment-table (λ k. segment13 (model_read t) k) c.segments_at.ensures.0 c.first_13.ensures c.place_in.ensures
