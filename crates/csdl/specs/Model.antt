-- A model as the rules see it: the number of records of each table, and each field of each record by its record's number.
-- No rule sees bits or bytes; `model_of` reads the fields from the nine parts of an image.
use Rattle.std.specs.Prelude.{ℕ, ◌+◌, ◌-◌, List, Bool, false, cond, not, ◌&&◌, eqb, ltb, leb}
use Rattle.packed.specs.Bytes.{part}
use Rattle.csdl.specs.Tables as tables
use Rattle.csdl.specs.Tables.{Name}
use Rattle.csdl.specs.declared.Run.{Run}
use Rattle.csdl.specs.declared.Record.{Record}
use Rattle.csdl.specs.declared.Record.TheVariants.{OfSchema, OfType, OfProperty, OfKey, OfConstraint, OfChild, OfBinding, OfSegment, Nowhere}

pub record Model : Type 0 where
  -- how many records each table has, and the name bytes
  pub schemas : ℕ
  pub types : ℕ
  pub properties : ℕ
  pub keys : ℕ
  pub constraints : ℕ
  pub children : ℕ
  pub bindings : ℕ
  pub segments : ℕ
  pub names : List ℕ
  -- schema
  pub namespace : ℕ → Name
  pub alias : ℕ → Name
  -- type; base: 0 none, else type number + 1
  pub schema_of : ℕ → ℕ
  pub kind : ℕ → ℕ
  pub is_abstract : ℕ → Bool
  pub is_open : ℕ → Bool
  pub is_media : ℕ → Bool
  pub base : ℕ → ℕ
  pub underlying : ℕ → ℕ
  pub type_name : ℕ → Name
  pub type_spare : ℕ → ℕ
  -- property
  pub owner : ℕ → ℕ
  pub navigation : ℕ → Bool
  pub collection : ℕ → Bool
  pub nullable : ℕ → Bool
  pub contains : ℕ → Bool
  pub type_ref : ℕ → ℕ
  pub property_name : ℕ → Name
  pub partner : ℕ → Run
  pub property_spare : ℕ → ℕ
  -- key
  pub key_owner : ℕ → ℕ
  pub key_path : ℕ → Run
  pub key_alias : ℕ → Name
  pub key_spare : ℕ → ℕ
  -- constraint
  pub constrained : ℕ → ℕ
  pub dependent : ℕ → Run
  pub principal : ℕ → Run
  pub constraint_spare : ℕ → ℕ
  -- child of the entity container; not a singleton: an entity set
  pub singleton : ℕ → Bool
  pub child_nullable : ℕ → Bool
  pub child_type : ℕ → ℕ
  pub child_name : ℕ → Name
  pub child_spare : ℕ → ℕ
  -- binding
  pub binding_child : ℕ → ℕ
  pub binding_path : ℕ → Run
  pub target : ℕ → ℕ
  pub target_path : ℕ → Run
  pub binding_spare : ℕ → ℕ
  -- segment
  pub is_cast : ℕ → Bool
  pub segment_name : ℕ → Name
  pub cast_type : ℕ → ℕ
  pub segment_spare : ℕ → ℕ

-- The model in the nine parts of an image.
unfoldable pub model_of : List ℕ → List ℕ → List ℕ → List ℕ → List ℕ → List ℕ → List ℕ → List ℕ → List ℕ → Model
model_of schemas types properties keys constraints children bindings segments names =
    record {
      schemas = tables.schema_count schemas;
      types = tables.type_count types;
      properties = tables.property_count properties;
      keys = tables.key_count keys;
      constraints = tables.constraint_count constraints;
      children = tables.child_count children;
      bindings = tables.binding_count bindings;
      segments = tables.segment_count segments;
      names = names;
      namespace = λ s. tables.schema_namespace schemas s;
      alias = λ s. tables.schema_alias schemas s;
      schema_of = λ t. tables.type_schema types t;
      kind = λ t. tables.type_kind types t;
      is_abstract = λ t. tables.type_abstract types t;
      is_open = λ t. tables.type_open types t;
      is_media = λ t. tables.type_media types t;
      base = λ t. tables.type_base types t;
      underlying = λ t. tables.type_underlying types t;
      type_name = λ t. tables.type_name types t;
      type_spare = λ t. tables.type_spare types t;
      owner = λ p. tables.property_owner properties p;
      navigation = λ p. tables.property_navigation properties p;
      collection = λ p. tables.property_collection properties p;
      nullable = λ p. tables.property_nullable properties p;
      contains = λ p. tables.property_contains properties p;
      type_ref = λ p. tables.property_type_ref properties p;
      property_name = λ p. tables.property_name properties p;
      partner = λ p. tables.property_partner properties p;
      property_spare = λ p. tables.property_spare properties p;
      key_owner = λ k. tables.key_owner keys k;
      key_path = λ k. tables.key_path keys k;
      key_alias = λ k. tables.key_alias keys k;
      key_spare = λ k. tables.key_spare keys k;
      constrained = λ c. tables.constraint_property constraints c;
      dependent = λ c. tables.constraint_dependent constraints c;
      principal = λ c. tables.constraint_principal constraints c;
      constraint_spare = λ c. tables.constraint_spare constraints c;
      singleton = λ h. tables.child_singleton children h;
      child_nullable = λ h. tables.child_nullable children h;
      child_type = λ h. tables.child_type children h;
      child_name = λ h. tables.child_name children h;
      child_spare = λ h. tables.child_spare children h;
      binding_child = λ b. tables.binding_child bindings b;
      binding_path = λ b. tables.binding_path bindings b;
      target = λ b. tables.binding_target bindings b;
      target_path = λ b. tables.binding_target_path bindings b;
      binding_spare = λ b. tables.binding_spare bindings b;
      is_cast = λ g. tables.segment_cast segments g;
      segment_name = λ g. tables.segment_name segments g;
      cast_type = λ g. tables.segment_type segments g;
      segment_spare = λ g. tables.segment_spare segments g;
    }

-- The bytes of a name.
abbrev pub text : Model → Name → List ℕ
text m n = part m.names n.start n.size

-- The text of each name of a record.
abbrev pub namespace_text : Model → ℕ → List ℕ
namespace_text m s = text m (m.namespace s)

abbrev pub alias_text : Model → ℕ → List ℕ
alias_text m s = text m (m.alias s)

abbrev pub type_text : Model → ℕ → List ℕ
type_text m t = text m (m.type_name t)

abbrev pub property_text : Model → ℕ → List ℕ
property_text m p = text m (m.property_name p)

abbrev pub key_alias_text : Model → ℕ → List ℕ
key_alias_text m k = text m (m.key_alias k)

abbrev pub child_text : Model → ℕ → List ℕ
child_text m h = text m (m.child_name h)

abbrev pub segment_text : Model → ℕ → List ℕ
segment_text m g = text m (m.segment_name g)

-- A name that is there; a path that is there.
abbrev pub named : Name → Bool
named n = not (eqb n.size 0)

abbrev pub present : Run → Bool
present r = not (eqb r.count 0)

-- Number k is of the run.
abbrev pub in_run : Run → ℕ → Bool
in_run r k = leb r.first k && ltb k (r.first + r.count)

-- Places: the records are numbered from 0 through all tables in image order.
abbrev pub types_at : Model → ℕ
types_at m = m.schemas

abbrev pub properties_at : Model → ℕ
properties_at m = types_at m + m.types

abbrev pub keys_at : Model → ℕ
keys_at m = properties_at m + m.properties

abbrev pub constraints_at : Model → ℕ
constraints_at m = keys_at m + m.keys

abbrev pub children_at : Model → ℕ
children_at m = constraints_at m + m.constraints

abbrev pub bindings_at : Model → ℕ
bindings_at m = children_at m + m.children

abbrev pub segments_at : Model → ℕ
segments_at m = bindings_at m + m.bindings

abbrev pub places : Model → ℕ
places m = segments_at m + m.segments

-- The eight tables of records; the places of each, from the first up to the one after its last.
pub data Table : Type 0 where
  schema-table type-table property-table key-table constraint-table child-table binding-table segment-table : Table

abbrev pub first_place : Model → Table → ℕ
first_place m schema-table = 0
first_place m type-table = types_at m
first_place m property-table = properties_at m
first_place m key-table = keys_at m
first_place m constraint-table = constraints_at m
first_place m child-table = children_at m
first_place m binding-table = bindings_at m
first_place m segment-table = segments_at m

abbrev pub end_place : Model → Table → ℕ
end_place m schema-table = types_at m
end_place m type-table = properties_at m
end_place m property-table = keys_at m
end_place m key-table = constraints_at m
end_place m constraint-table = children_at m
end_place m child-table = bindings_at m
end_place m binding-table = segments_at m
end_place m segment-table = places m

-- The record at a place, by the first place of each table and the place after the last; and in a model.
abbrev pub record_from : (Table → ℕ) → ℕ → ℕ → Record
record_from first end place =
    cond (ltb place (first type-table)) (OfSchema place)
    (cond (ltb place (first property-table)) (OfType (place - first type-table))
    (cond (ltb place (first key-table)) (OfProperty (place - first property-table))
    (cond (ltb place (first constraint-table)) (OfKey (place - first key-table))
    (cond (ltb place (first child-table)) (OfConstraint (place - first constraint-table))
    (cond (ltb place (first binding-table)) (OfChild (place - first child-table))
    (cond (ltb place (first segment-table)) (OfBinding (place - first binding-table))
    (cond (ltb place end) (OfSegment (place - first segment-table)) Nowhere)))))))

unfoldable pub record_at : Model → ℕ → Record
record_at m place = record_from (λ t. first_place m t) (places m) place

-- Tables in image order; the two are one table.
abbrev pub table_no : Table → ℕ
table_no schema-table = 0
table_no type-table = 1
table_no property-table = 2
table_no key-table = 3
table_no constraint-table = 4
table_no child-table = 5
table_no binding-table = 6
table_no segment-table = 7

abbrev pub same_table : Table → Table → Bool
same_table t u = eqb (table_no t) (table_no u)

-- A test of the records of table t, as a test of any record: those of other tables do not pass.
abbrev pub on : Table → (ℕ → Bool) → Record → Bool
on t test (OfSchema s) = same_table t schema-table && test s
on t test (OfType u) = same_table t type-table && test u
on t test (OfProperty p) = same_table t property-table && test p
on t test (OfKey k) = same_table t key-table && test k
on t test (OfConstraint c) = same_table t constraint-table && test c
on t test (OfChild h) = same_table t child-table && test h
on t test (OfBinding b) = same_table t binding-table && test b
on t test (OfSegment g) = same_table t segment-table && test g
on t test Nowhere = false
