-- What an image's bits give: fields past the end of a table read 0, and a field is below its width's limit.
use Prim.Native.Nat.{ℕ, ◌+◌, ◌*◌, ◌≤◌, ◌<◌}
use mathlib.Core.Path.{◌≡◌}
use mathlib.Core.List.{List}
use mathlib.Core.Bool.{false, ◌||◌}
use native.Mathlib.Omega.{arith}
use lib.Dec.{eqb}
use lib.ListN.{length, length-take, length-drop}
use borrow.Author.Tests.{eqb-true, not-false}
use Rattle.packed.specs.Bytes.{between}
use Rattle.packed.proofs.Laws.{field_lt, field_past}
use Rattle.csdl.specs.Model.{model_of}
use Rattle.csdl.specs.Image.{model_in, header, types_from, properties_from, image_end, image1, image1a, image1b, image1c, image1d}
use Rattle.csdl.specs.Instance.{instance_of, instance_in}
use Rattle.csdl.proofs.Logic.{or_no}

-- Past the types' table a base reads 0.
pub base_past : (image : List ℕ) → image1 image ≡ false → (t : ℕ) → (model_in image).types ≤ t → (model_in image).base t ≡ 0
unfolding model_in model_of image1
base_past image h t l =
    let types = between image (types_from image) (properties_from image) in
    let e = (or_no (image1a image || image1b image || image1c image) (image1d image) h).1 in
    let n = eqb-true (length image) (image_end image) (not-false (eqb (length image) (image_end image)) e) in
    let a : length types ≡ 6 * header image 2 = simp (length-take, length-drop) (omega arith) in
    field_past types (48 * t + 10) 7 (omega arith)

-- A slot's state has two bits.
pub state-small : (image : List ℕ) (s : ℕ) → (instance_in image).state s < 4
unfolding instance_in instance_of
state-small image s = field_lt _ (40 * s + 9) 2
