use Rattle.std.proofs.Common.{◌≡◌, arith}
use Rattle.type_hierarchy.proofs.Closing.{reached_start, reached_more, reached_all}
use Rattle.instance_containment.specs.Rows.{in_row}
use Rattle.instance_containment.proofs.rows.close_rows.Goals as goal

pub loop-c-init : goal.loop-c-init
loop-c-init c = (c.requires.0, reached_start _ _)

pub loop-c-preserved : goal.loop-c-preserved
loop-c-preserved c = (c.go_through.ensures.size, reached_more c.args.n 256 c.loop-c.c (in_row c.args.rows.now) (in_row c.loop-c.rows) (in_row c.go_through.new.rows) (omega arith) (omega arith) c.loop-c.invariant.1 (record { row = c.go_through.ensures.row }))

pub returns : goal.returns
returns c =
    let e : c.loop-c.c ≡ c.args.n = omega arith in
    record { size = c.loop-c.invariant.0; row = reached_all c.args.n (in_row c.args.rows.now) (in_row c.loop-c.rows) (rw e at c.loop-c.invariant.1) }
