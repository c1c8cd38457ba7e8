use Rattle.std.proofs.Common.{◌≡◌, arith}
use Rattle.csdl.specs.Later.{later_names_from}
use Rattle.later_images.proofs.LaterImage.names.Goals as goal

pub overflow_sub-end : goal.overflow_sub-end
overflow_sub-end c = let e : c.table_from-from.result ≡ later_names_from c.args.self.now.sizes.now c.args.self.now.image.now = rw (← c.tables.ensures.0) c.table_from-from.ensures.0 in omega (arith, c.end.ensures, e)

pub returns : goal.returns
returns c = rw (← c.end.ensures, ← c.tables.ensures.0, ← c.table_from-from.ensures.0) c.part_of.ensures
