use mathlib.Core.Path.{◌≡◌}
use native.Mathlib.Omega.{arith}
use Rattle.type_hierarchy.specs.Sets.{step_of}
use Rattle.type_hierarchy.proofs.Closing.{reached_start, reached_more, reached_all}
use borrow.Author.Rules.{rules}
use Rattle.rules_required_cycle.proofs.cycles.close_rows.Goals as goal

pub loop-c-init : goal.loop-c-init
loop-c-init c = (search rules, search rules, reached_start _ _)

pub loop-c-preserved : goal.loop-c-preserved
loop-c-preserved c = (search rules, search rules, reached_more c.args.n 64 c.loop-c.c (step_of c.args.rows.now) (step_of c.loop-c.rows) (step_of c.go_through.new.rows) (omega arith) (omega arith) c.loop-c.invariant.2 (record { row = c.go_through.ensures }))

pub returns : goal.returns
returns c = let e : c.loop-c.c ≡ c.args.n = omega arith in
    reached_all c.args.n (step_of c.args.rows.now) (step_of c.loop-c.rows) (rw e at c.loop-c.invariant.2)
