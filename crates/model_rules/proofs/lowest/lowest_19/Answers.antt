use Rattle.csdl.specs.Model.Table.{binding-table}
use Rattle.csdl.specs.Paths.{binding19}
use Rattle.model_image.specs.Read.{model_read}
use Rattle.model_rules.specs.Stages.{lowest_place}
use Rattle.model_rules.proofs.Placed.{fits, placed}
use Rattle.model_rules.proofs.Coded.{bindings_19}
use Rattle.model_rules.proofs.lowest.lowest_19.Goals as goal

pub place_in-requires : goal.place_in-requires
place_in-requires c = let t = c.args.lookup.now.hierarchy.model in
    fits t binding-table (λ k. binding19 (model_read t) k) c.bindings_at.ensures.0 (bindings_19 t c.requires.0 c.requires.1 c.requires.2 _ c.args.lookup.now.few_properties c.args.lookup.now.indexed c.first_19.ensures)

pub returns : goal.returns
unfolding lowest_place
returns c = let t = c.args.lookup.now.hierarchy.model in
    placed t binding-table (λ k. binding19 (model_read t) k) c.bindings_at.ensures.0 (bindings_19 t c.requires.0 c.requires.1 c.requires.2 _ c.args.lookup.now.few_properties c.args.lookup.now.indexed c.first_19.ensures) c.place_in.ensures
