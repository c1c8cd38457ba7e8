use native.Mathlib.Omega.{arith}
use Rattle.type_names.proofs.WideLaws.{row_put}
use Rattle.type_names.proofs.wide.with_row.Goals as goal

pub returns : goal.returns
returns c = rw c.copy_from_slice.ensures.after (row_put _ _ _ _ c.requires.0 c.requires.1 c.requires.2 (omega arith))
