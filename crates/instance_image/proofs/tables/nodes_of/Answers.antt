use Prim.Native.Nat.{◌*◌}
use mathlib.Core.Path.{sym, ◌∙◌}
use Rattle.packed.proofs.Laws.{part-whole}
use Rattle.csdl.specs.Image.{header}
use Rattle.instance_image.proofs.tables.nodes_of.Goals as goal

pub returns : goal.returns
returns c = rw c.number_at.ensures at c.part_of.ensures ∙ sym (part-whole c.args.image.now 8 (4 * header c.args.image.now 1))
