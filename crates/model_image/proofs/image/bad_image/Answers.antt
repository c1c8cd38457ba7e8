use Rattle.csdl.specs.Image.{image1}
use Rattle.model_image.proofs.image.bad_image.Goals as goal

pub returns : goal.returns
unfolding image1
returns c = rw (c.bad_counts.ensures, c.number_at.ensures, c.starts_of-end.ensures, c.counts_of-n.ensures)
