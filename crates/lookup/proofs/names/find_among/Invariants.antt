use Rattle.csdl.specs.Tables.{property_count}
use Rattle.lookup.proofs.Looking.{Looking, remaining}
use Rattle.lookup.proofs.names.find_among.Given as goal

abbrev pub invariant-loop-at : goal.invariant-loop-at
invariant-loop-at l = Looking l.lookup l.name l.t l.at l.nearest l.near

abbrev pub decreases-loop-at : goal.decreases-loop-at
decreases-loop-at l = remaining (property_count l.lookup.hierarchy.model.properties.now) l.at
