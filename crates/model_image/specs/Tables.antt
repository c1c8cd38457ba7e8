-- The tables of a model image: each is the part between two of the bounds that the header gives.
use Rattle.std.specs.Prelude.{ℕ, List}
use Rattle.packed.specs.Bytes.{between}
use Rattle.csdl.specs.Image.{types_from, properties_from, keys_from, constraints_from, children_from, bindings_from, segments_from, names_from, image_end}

abbrev pub schemas_in : List ℕ → List ℕ
schemas_in image = between image 20 (types_from image)

abbrev pub types_in : List ℕ → List ℕ
types_in image = between image (types_from image) (properties_from image)

abbrev pub properties_in : List ℕ → List ℕ
properties_in image = between image (properties_from image) (keys_from image)

abbrev pub keys_in : List ℕ → List ℕ
keys_in image = between image (keys_from image) (constraints_from image)

abbrev pub constraints_in : List ℕ → List ℕ
constraints_in image = between image (constraints_from image) (children_from image)

abbrev pub children_in : List ℕ → List ℕ
children_in image = between image (children_from image) (bindings_from image)

abbrev pub bindings_in : List ℕ → List ℕ
bindings_in image = between image (bindings_from image) (segments_from image)

abbrev pub segments_in : List ℕ → List ℕ
segments_in image = between image (segments_from image) (names_from image)

abbrev pub names_in : List ℕ → List ℕ
names_in image = between image (names_from image) (image_end image)
