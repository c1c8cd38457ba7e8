-- The model image: its header, its limits, its nine parts; rules 1 and 2, which speak of the whole image and the whole call.
use Rattle.std.specs.Prelude.{ℕ, zero, suc, ◌+◌, ◌*◌, List, [], ◌∷◌, Bool, ◌||◌, not, length, eqb, ltb}
use Rattle.packed.specs.Field.{field_of}
use Rattle.packed.specs.Bytes.{between}
use Rattle.csdl.specs.Model.{Model, model_of}

-- The header is ten 16-bit numbers: version, then the counts of schemas, types, properties, keys, constraints, children,
-- bindings, segments and name bytes.
abbrev pub header : List ℕ → ℕ → ℕ
header image k = field_of image (16 * k) 16

-- Where part k begins, from 0: after byte `at`, the parts follow one after another; count i, count i + 1 and so on are their numbers of records,
-- and the list has the bytes of a record of each.
abbrev pub part_from : (ℕ → ℕ) → ℕ → ℕ → List ℕ → ℕ → ℕ
part_from count at i sizes zero = at
part_from count at i [] (suc k) = at
part_from count at i (size ∷ sizes) (suc k) = part_from count (at + size * count i) (i + 1) sizes k

-- The bytes of a record of each table of a model: schema, type, property, key, constraint, child, binding, segment. The name bytes follow.
abbrev pub model_sizes : List ℕ
model_sizes = 5 ∷ 6 ∷ 7 ∷ 6 ∷ 5 ∷ 4 ∷ 6 ∷ 3 ∷ []

-- Where part k of a model begins; part 8 are the name bytes.
abbrev pub model_part : List ℕ → ℕ → ℕ
model_part image k = part_from (λ i. header image i) 20 1 model_sizes k

abbrev pub types_from : List ℕ → ℕ
types_from image = model_part image 1

abbrev pub properties_from : List ℕ → ℕ
properties_from image = model_part image 2

abbrev pub keys_from : List ℕ → ℕ
keys_from image = model_part image 3

abbrev pub constraints_from : List ℕ → ℕ
constraints_from image = model_part image 4

abbrev pub children_from : List ℕ → ℕ
children_from image = model_part image 5

abbrev pub bindings_from : List ℕ → ℕ
bindings_from image = model_part image 6

abbrev pub segments_from : List ℕ → ℕ
segments_from image = model_part image 7

abbrev pub names_from : List ℕ → ℕ
names_from image = model_part image 8

abbrev pub image_end : List ℕ → ℕ
image_end image = names_from image + header image 9

-- The model that an image holds.
unfoldable pub model_in : List ℕ → Model
model_in image =
    model_of (between image 20 (types_from image)) (between image (types_from image) (properties_from image))
    (between image (properties_from image) (keys_from image)) (between image (keys_from image) (constraints_from image))
    (between image (constraints_from image) (children_from image)) (between image (children_from image) (bindings_from image))
    (between image (bindings_from image) (segments_from image)) (between image (segments_from image) (names_from image))
    (between image (names_from image) (image_end image))

-- Rule 1 (house).
-- 1a: the image has fewer than 20 bytes.
abbrev pub image1a : List ℕ → Bool
image1a image = ltb (length image) 20

-- 1b: the version is not 0402 in hexadecimal.
abbrev pub image1b : List ℕ → Bool
image1b image = not (eqb (header image 0) 0x0402)

-- 1c: a count, by its number in the header, is beyond its limit: no schema or more than 16, more than 64 types, 512 properties, 128 keys,
-- 64 constraints, 64 children, 128 bindings, 1024 segments, 4096 name bytes.
abbrev pub beyond1c : (ℕ → ℕ) → Bool
beyond1c count =
    eqb (count 1) 0 || ltb 16 (count 1) || ltb 64 (count 2) || ltb 512 (count 3) || ltb 128 (count 4)
    || ltb 64 (count 5) || ltb 64 (count 6) || ltb 128 (count 7) || ltb 1024 (count 8) || ltb 4096 (count 9)

abbrev pub image1c : List ℕ → Bool
image1c image = beyond1c (λ i. header image i)

-- 1d: the length is not the sum of the header, the tables and the name bytes.
abbrev pub image1d : List ℕ → Bool
image1d image = not (eqb (length image) (image_end image))

unfoldable pub image1 : List ℕ → Bool
image1 image = image1a image || image1b image || image1c image || image1d image

-- Rule 2 (house). 2a: the resolution buffer has fewer than 2 bytes a segment.
unfoldable pub buffer2 : List ℕ → List ℕ → Bool
buffer2 image buffer = ltb (length buffer) (2 * header image 8)
