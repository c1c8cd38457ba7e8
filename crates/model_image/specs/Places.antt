-- The places of a model's tables as a value, and the record at a place by it.
use Rattle.std.specs.Prelude.{ℕ}
use Rattle.csdl.specs.Model.{Model, Table, types_at, properties_at, keys_at, constraints_at, children_at, bindings_at, segments_at, places, record_from}
use Rattle.csdl.specs.Model.Table.{schema-table, type-table, property-table, key-table, constraint-table, child-table, binding-table, segment-table}
use Rattle.csdl.specs.declared.Record.{Record}
use Rattle.model_image.specs.declared.places.Places.{Places}

abbrev pub places_of : Model → Places
places_of m =
    record {
      types = types_at m;
      properties = properties_at m;
      keys = keys_at m;
      constraints = constraints_at m;
      children = children_at m;
      bindings = bindings_at m;
      segments = segments_at m;
      end = places m;
    }

-- The first place of each table, and the record at a place.
abbrev first_in : Places → Table → ℕ
first_in at schema-table = 0
first_in at type-table = at.types
first_in at property-table = at.properties
first_in at key-table = at.keys
first_in at constraint-table = at.constraints
first_in at child-table = at.children
first_in at binding-table = at.bindings
first_in at segment-table = at.segments

unfoldable pub record_by : Places → ℕ → Record
record_by at place = record_from (λ t. first_in at t) at.end place
