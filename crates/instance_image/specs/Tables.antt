-- The tables of an instance image: each is the part between two of the bounds that the header gives.
use Rattle.std.specs.Prelude.{ℕ, List}
use Rattle.packed.specs.Bytes.{between}
use Rattle.csdl.specs.Instance.{slots_from, items_from, instance_end}

abbrev pub nodes_in : List ℕ → List ℕ
nodes_in image = between image 8 (slots_from image)

abbrev pub slots_in : List ℕ → List ℕ
slots_in image = between image (slots_from image) (items_from image)

abbrev pub items_in : List ℕ → List ℕ
items_in image = between image (items_from image) (instance_end image)
