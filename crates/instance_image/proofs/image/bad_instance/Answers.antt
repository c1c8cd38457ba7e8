use Rattle.csdl.specs.Instance.{image20}
use Rattle.instance_image.proofs.image.bad_instance.Goals as goal

pub returns : goal.returns
unfolding image20
returns c = rw (c.items_end-end.ensures.0, c.number_at-items.ensures, c.number_at-slots.ensures, c.number_at-nodes.ensures, c.number_at-version.ensures)
