use Rattle.std.proofs.Common.{sym, ◌∙◌, arith}
use Rattle.instance_containment.proofs.RowLaws.{joining_start, joining_more, joined, not_joined}
use Rattle.instance_containment.proofs.rows.pass.Goals as goal

pub returns-then-not-in_row : goal.returns-then-not-in_row
returns-then-not-in_row c = not_joined c.args.v c.args.c c.args.rows.now c.requires.0 (sym c.in_row.ensures ∙ c.if-not-in_row.true)

pub loop-j-init : goal.loop-j-init
loop-j-init c = joining_start c.args.v c.args.c c.args.rows.now c.requires.0

pub loop-j-preserved : goal.loop-j-preserved
loop-j-preserved c = joining_more c.args.v c.args.c c.args.rows.now c.loop-j.rows c.loop-j.j c.loop-j.invariant c.loop-j-test.true c.requires.1

pub returns : goal.returns
returns c = joined c.args.v c.args.c c.args.rows.now c.loop-j.rows c.loop-j.j (omega arith) (sym c.in_row.ensures ∙ c.if-not-in_row.false) c.loop-j.invariant
