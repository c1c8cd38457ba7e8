-- The instance that the tables are; that they are the tables of an image.
use Rattle.std.specs.Prelude.{ℕ, ◌≡◌, List}
use Rattle.csdl.specs.Instance as instances
use Rattle.instance_image.specs.Tables.{nodes_in, slots_in, items_in}
use Rattle.instance_image.specs.declared.instance.Instance.{Instance}

unfoldable pub instance_read : Instance → instances.Instance
instance_read i = instances.instance_of i.nodes.now i.slots.now i.items.now

-- Each table is the part of the image that holds it, byte for byte.
pub record TablesOf (image : List ℕ) (i : Instance) : Type 0 where
  pub nodes : i.nodes.now ≡ nodes_in image
  pub slots : i.slots.now ≡ slots_in image
  pub items : i.items.now ≡ items_in image
