use Prim.Native.Nat.{◌*◌}
use mathlib.Core.Path.{sym, ◌∙◌}
use Rattle.packed.proofs.Laws.{part-whole}
use Rattle.csdl.specs.Instance.{items_from}
use Rattle.csdl.specs.Image.{header}
use Rattle.instance_image.proofs.tables.items_of.Goals as goal

pub returns : goal.returns
returns c = rw (c.number_at.ensures, c.slots_end.ensures.0) at c.part_of.ensures ∙ sym (part-whole c.args.image.now (items_from c.args.image.now) (4 * header c.args.image.now 3))
