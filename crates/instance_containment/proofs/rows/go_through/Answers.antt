use Rattle.std.proofs.Common.{arith}
use Rattle.type_hierarchy.proofs.Closing.{going_start, going_more, going_through}
use Rattle.instance_containment.specs.Rows.{in_row}
use Rattle.instance_containment.proofs.rows.go_through.Goals as goal

pub loop-v-init : goal.loop-v-init
loop-v-init c = (c.requires.0, going_start _ _ _)

pub loop-v-preserved : goal.loop-v-preserved
loop-v-preserved c = (c.pass.ensures.size, going_more 256 c.loop-v.v c.args.c (in_row c.args.rows.now) (in_row c.loop-v.rows) c.loop-v.invariant.1 (in_row c.pass.new.rows) (omega arith) c.pass.ensures.here c.pass.ensures.other)

pub returns : goal.returns
returns c =
    let t = going_through 256 c.loop-v.v c.args.c (in_row c.args.rows.now) (in_row c.loop-v.rows) c.loop-v.invariant.1 c.args.n c.loop-v-test.false in
    record { size = c.loop-v.invariant.0; row = t.row }
