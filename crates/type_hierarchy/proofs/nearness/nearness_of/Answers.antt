use Rattle.type_hierarchy.proofs.Climbing.{is_nearness}
use Rattle.type_hierarchy.proofs.nearness.nearness_of.Goals as goal

pub returns : goal.returns
returns c = rw (← c.type_count.ensures.0) (is_nearness _ _ _ _ c.climb.ensures)
