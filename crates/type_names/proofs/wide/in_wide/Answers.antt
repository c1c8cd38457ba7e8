use Rattle.type_names.specs.Wide.{wide}
use Rattle.type_names.proofs.wide.in_wide.Goals as goal

pub returns : goal.returns
unfolding wide
returns c = c.in_set.ensures
