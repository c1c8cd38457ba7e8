use Rattle.csdl.specs.Conforms.{slot21b}
use Rattle.instance_runs.specs.Clauses.{slot_form}
use Rattle.instance_runs.proofs.Counts.{two_one}
use Rattle.instance_runs.proofs.form.slot_21.Goals as goal

pub returns : goal.returns
unfolding slot21b slot_form
returns c = rw (c.slot_form.ensures, c.requires.1.at _ c.requires.0, two_one _)
