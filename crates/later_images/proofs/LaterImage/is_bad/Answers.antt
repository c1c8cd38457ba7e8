use Rattle.csdl.specs.Later.{later_image1}
use Rattle.later_images.proofs.LaterImage.is_bad.Goals as goal

pub returns : goal.returns
unfolding later_image1
returns c = rw (c.from.ensures, ← c.end.ensures, ← c.many_records.ensures, ← c.tables-n.ensures.0, ← c.number_at.ensures, ← c.number_at-2.ensures)
