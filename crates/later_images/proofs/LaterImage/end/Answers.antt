use Rattle.later_images.proofs.LaterImage.end.Goals as goal

pub returns : goal.returns
returns c = rw (c.from.ensures, ← c.tables-n.ensures.0, ← c.table_from.ensures.0, ← c.number_at.ensures)
