use lib.ListN.{length-set}
use Rattle.type_names.proofs.WideLaws.{wide_with}
use Rattle.type_names.proofs.wide.with_wide.Goals as goal

pub returns : goal.returns
returns c = (simp length-set c.requires.0, wide_with c.args.words c.args.p c.with_one.result c.requires.0 c.requires.1 c.with_one.ensures)
