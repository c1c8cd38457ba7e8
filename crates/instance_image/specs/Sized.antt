-- What rule 20 leaves of an instance image.
use Rattle.std.specs.Prelude.{ℕ, ◌≤◌, ◌≡◌, List, length}
use Rattle.csdl.specs.Image.{header}
use Rattle.csdl.specs.Instance.{instance_in, instance_end}
use Rattle.instance_image.specs.Limits.{FewNodes, FewSlots, FewItems}
use Rattle.instance_image.specs.Tables.{nodes_in, slots_in, items_in}

-- The counts are within their limits, and the length is that of the tables.
pub record Sized (image : List ℕ) : Type 0 where
  pub whole : length image ≡ instance_end image
  pub nodes-most : header image 1 ≤ 256
  pub slots-most : header image 2 ≤ 1024
  pub items-most : header image 3 ≤ 2048
  pub nodes-length : FewNodes (nodes_in image)
  pub slots_length : FewSlots (slots_in image)
  pub items-length : FewItems (items_in image)
  pub nodes-count : (instance_in image).nodes ≡ header image 1
  pub slots-count : (instance_in image).slots ≡ header image 2
  pub items-count : (instance_in image).items ≡ header image 3
