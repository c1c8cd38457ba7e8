use Rattle.csdl.specs.Model.Table.{constraint-table}
use Rattle.csdl.specs.Paths.{constraint16}
use Rattle.model_image.specs.Read.{model_read}
use Rattle.model_rules.specs.Stages.{lowest_place}
use Rattle.model_rules.proofs.Placed.{fits, placed}
use Rattle.model_rules.proofs.Coded.{constraints_16}
use Rattle.model_rules.proofs.lowest.lowest_16.Goals as goal

pub place_in-requires : goal.place_in-requires
place_in-requires c = let t = c.args.model.now in
    fits t constraint-table (λ k. constraint16 (model_read t) k) c.constraints_at.ensures.0 (constraints_16 t c.requires c.first_16.ensures)

pub returns : goal.returns
unfolding lowest_place
returns c = let t = c.args.model.now in
    placed t constraint-table (λ k. constraint16 (model_read t) k) c.constraints_at.ensures.0 (constraints_16 t c.requires c.first_16.ensures) c.place_in.ensures
