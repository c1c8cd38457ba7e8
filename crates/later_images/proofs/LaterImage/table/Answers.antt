use Rattle.std.proofs.Common.{arith}
use Rattle.csdl.proofs.Later.{table_next}
use Rattle.later_images.proofs.LaterImage.table.Goals as goal

pub overflow_sub-table_from : goal.overflow_sub-table_from
overflow_sub-table_from c = omega (arith, c.table_from.ensures.0, c.table_from-from.ensures.0, table_next c.args.self.now.sizes.now c.args.self.now.image.now c.args.k (omega (arith, c.requires)))

pub returns : goal.returns
returns c = rw (← c.table_from-from.ensures.0, ← c.table_from.ensures.0) c.part_of.ensures
