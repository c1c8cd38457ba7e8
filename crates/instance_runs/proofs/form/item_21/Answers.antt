use Rattle.csdl.specs.Conforms.{item21c}
use Rattle.instance_runs.proofs.Counts.{two_one}
use Rattle.instance_runs.proofs.form.item_21.Goals as goal

pub returns : goal.returns
unfolding item21c
returns c = rw (c.requires.1.at _ c.requires.0, two_one _)
