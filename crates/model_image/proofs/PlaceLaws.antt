-- The record at a place, by the places of the model. Assumes nothing.
use Prim.Native.Nat.{ℕ}
use mathlib.Core.Path.{◌≡◌, refl}
use Rattle.csdl.specs.Model.{Model, record_at}
use Rattle.model_image.specs.Places.{places_of, record_by}

pub record_in : (m : Model) (place : ℕ) → record_by (places_of m) place ≡ record_at m place
unfolding record_by record_at
record_in m place = refl
