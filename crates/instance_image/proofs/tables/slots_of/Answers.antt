use Prim.Native.Nat.{◌*◌}
use Rattle.packed.proofs.Laws.{part-whole}
use Rattle.csdl.specs.Instance.{slots_from}
use Rattle.csdl.specs.Image.{header}
use Rattle.instance_image.proofs.tables.slots_of.Goals as goal

-- The start is not named below, so that an edit that takes another is refused for what does not follow from it.
pub returns : goal.returns
returns c = let whole = part-whole c.args.image.now (slots_from c.args.image.now) (5 * header c.args.image.now 2) in cc
