use Rattle.std.proofs.Common.{arith}
use Rattle.csdl.specs.Model.Table.{segment-table}
use Rattle.csdl.specs.Paths.{segment14}
use Rattle.model_image.specs.Read.{model_read}
use Rattle.model_rules.specs.Stages.{lowest_place}
use Rattle.model_rules.proofs.Placed.{fits, placed, few_segments, can_resolve}
use Rattle.model_rules.proofs.lowest.lowest_14.Goals as goal

pub first_14-requires : goal.first_14-requires
first_14-requires c = let t = c.args.lookup.now.hierarchy.model in
    (can_resolve t c.requires.0 c.requires.1, omega (arith, few_segments t, c.requires.2))

pub place_in-requires : goal.place_in-requires
place_in-requires c = let t = c.args.lookup.now.hierarchy.model in
    fits t segment-table (λ k. segment14 (model_read t) k) c.segments_at.ensures.0 c.first_14.ensures.value

pub returns-clause-value : goal.returns-clause-value
unfolding lowest_place
returns-clause-value c = let t = c.args.lookup.now.hierarchy.model in
    placed t segment-table (λ k. segment14 (model_read t) k) c.segments_at.ensures.0 c.first_14.ensures.value c.place_in.ensures
