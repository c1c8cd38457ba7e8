use Rattle.csdl.specs.Instance as instances
use Rattle.instance_image.specs.Read.{instance_read}
use Rattle.instance_image.proofs.instance.Instance.read.Goals as goal

-- The tables are not named below, so that an edit that takes one for another is refused for what does not follow from it.
pub returns : goal.returns
unfolding instance_read instances.instance_in
returns c = record { value = cc; tables = record { nodes = cc; slots = cc; items = cc }; few = rw c.slots_of.ensures c.requires.slots_length }
