-- The model that the tables are; that they are the tables of an image.
use Rattle.std.specs.Prelude.{ℕ, ◌≡◌, List, min}
use Rattle.csdl.specs.Model as models
use Rattle.csdl.specs.Tables.{property_count, child_count}
use Rattle.model_image.specs.Tables.{schemas_in, types_in, properties_in, keys_in, constraints_in, children_in, bindings_in, segments_in, names_in}
use Rattle.model_image.specs.declared.model.Model.{Model}

-- Of properties and children no more are counted than rule 1 allows; the fields of a record are read wherever it stands.
unfoldable pub model_read : Model → models.Model
model_read m =
    record (models.model_of m.schemas.now m.types.now m.properties.now m.keys.now m.constraints.now m.children.now m.bindings.now m.segments.now m.names.now) {
      properties = min (property_count m.properties.now) 512;
      children = min (child_count m.children.now) 64;
    }

-- Each table is the part of the image that holds it, byte for byte.
pub record TablesOf (image : List ℕ) (m : Model) : Type 0 where
  pub schemas : m.schemas.now ≡ schemas_in image
  pub types : m.types.now ≡ types_in image
  pub properties : m.properties.now ≡ properties_in image
  pub keys : m.keys.now ≡ keys_in image
  pub constraints : m.constraints.now ≡ constraints_in image
  pub children : m.children.now ≡ children_in image
  pub bindings : m.bindings.now ≡ bindings_in image
  pub segments : m.segments.now ≡ segments_in image
  pub names : m.names.now ≡ names_in image
