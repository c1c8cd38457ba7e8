-- What rule 1 leaves of a model image.
use Rattle.std.specs.Prelude.{ℕ, ◌≤◌, ◌≡◌, List, length}
use Rattle.csdl.specs.Image.{header, image_end}

-- The counts are within their limits, and the length is that of the parts.
pub record Sized (image : List ℕ) : Type 0 where
  pub schema : 1 ≤ header image 1
  pub schemas : header image 1 ≤ 16
  pub types : header image 2 ≤ 64
  pub properties : header image 3 ≤ 512
  pub keys : header image 4 ≤ 128
  pub constraints : header image 5 ≤ 64
  pub children : header image 6 ≤ 64
  pub bindings : header image 7 ≤ 128
  pub segments : header image 8 ≤ 1024
  pub names : header image 9 ≤ 4096
  pub whole : length image ≡ image_end image
