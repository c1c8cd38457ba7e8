use Rattle.csdl.specs.Model.Table.{key-table}
use Rattle.csdl.specs.Paths.{key15}
use Rattle.model_image.specs.Read.{model_read}
use Rattle.model_rules.specs.Stages.{lowest_place}
use Rattle.model_rules.proofs.Placed.{fits, placed}
use Rattle.model_rules.proofs.Coded.{keys_15}
use Rattle.model_rules.proofs.lowest.lowest_15.Goals as goal

pub place_in-requires : goal.place_in-requires
place_in-requires c = let t = c.args.lookup.now.hierarchy.model in
    fits t key-table (λ k. key15 (model_read t) k) c.keys_at.ensures.0 (keys_15 t c.requires.0 c.requires.1 c.requires.2 c.first_15.ensures)

pub returns : goal.returns
unfolding lowest_place
returns c = let t = c.args.lookup.now.hierarchy.model in
    placed t key-table (λ k. key15 (model_read t) k) c.keys_at.ensures.0 (keys_15 t c.requires.0 c.requires.1 c.requires.2 c.first_15.ensures) c.place_in.ensures
