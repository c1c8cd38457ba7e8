use Rattle.csdl.specs.Search.{first_from}
use Rattle.std.proofs.Common.{sym, ◌∙◌}
use Rattle.instance_values.proofs.slots.first_23.Goals as goal

pub returns-then-node_count-eq0-clause-value : goal.returns-then-node_count-eq0-clause-value
unfolding first_from
returns-then-node_count-eq0-clause-value c = rw (sym c.node_count.ensures.0 ∙ c.if-node_count-eq0.true)
