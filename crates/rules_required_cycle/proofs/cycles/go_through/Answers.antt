use mathlib.Core.Path.{◌≡◌}
use native.Mathlib.Omega.{arith}
use lib.ListN.{length-set}
use Rattle.type_hierarchy.specs.Sets.{step_of}
use Rattle.type_hierarchy.proofs.Closing.{going_start, going_through}
use Rattle.rules_required_cycle.proofs.Closing.{row_more}
use borrow.Author.Rules.{rules}
use Rattle.rules_required_cycle.proofs.cycles.go_through.Goals as goal

pub loop-a-init : goal.loop-a-init
loop-a-init c = (search rules, search rules, search rules, search rules, going_start _ _ _)

pub loop-a-preserved : goal.loop-a-preserved
loop-a-preserved c = (search rules, search rules, search rules, rw length-set c.loop-a.invariant.3, row_more c.loop-a.a c.args.c c.with_row.result c.args.rows.now c.loop-a.rows c.loop-a.invariant.4 (omega arith) (omega arith) c.with_row.ensures)

pub returns : goal.returns
returns c = let e : c.loop-a.a ≡ c.args.n = omega arith in
    (going_through 64 c.loop-a.a c.args.c (step_of c.args.rows.now) (step_of c.loop-a.rows) c.loop-a.invariant.4 c.args.n (omega (arith, e))).row
