-- The records of the model image, field by field: where each field lies in its table. Widths are in bits, fields are packed
-- with the most significant bit first. A record past the end of its table reads as zeros.
use Rattle.std.specs.Prelude.{ℕ, ◌+◌, ◌*◌, ◌/◌, List, Bool, length}
use Rattle.packed.specs.Field.{field_of, flag_of}
use Rattle.csdl.specs.declared.Run.{Run}

-- A name: where it starts in the name bytes, and its length; length 0 means absent.
pub record Name : Type 0 where
  pub start : ℕ
  pub size : ℕ

-- Name: start 12, length 8.
abbrev pub name_in : List ℕ → ℕ → Name
name_in table at = record { start = field_of table at 12; size = field_of table (at + 12) 8 }

-- Path: first segment 11, count 4.
abbrev pub path_in : List ℕ → ℕ → Run
path_in table at = record { first = field_of table at 11; count = field_of table (at + 11) 4 }

-- Schema, 5 bytes: namespace name, alias name.
abbrev pub schema_count : List ℕ → ℕ
schema_count schemas = length schemas / 5

abbrev pub schema_namespace : List ℕ → ℕ → Name
schema_namespace schemas s = name_in schemas (40 * s)

abbrev pub schema_alias : List ℕ → ℕ → Name
schema_alias schemas s = name_in schemas (40 * s + 20)

-- Type, 6 bytes: schema 4, kind 3, abstract 1, open 1, media 1, base 7, underlying 5, name, spare 6.
abbrev pub type_count : List ℕ → ℕ
type_count types = length types / 6

abbrev pub type_schema : List ℕ → ℕ → ℕ
type_schema types t = field_of types (48 * t) 4

abbrev pub type_kind : List ℕ → ℕ → ℕ
type_kind types t = field_of types (48 * t + 4) 3

abbrev pub type_abstract : List ℕ → ℕ → Bool
type_abstract types t = flag_of types (48 * t + 7)

abbrev pub type_open : List ℕ → ℕ → Bool
type_open types t = flag_of types (48 * t + 8)

abbrev pub type_media : List ℕ → ℕ → Bool
type_media types t = flag_of types (48 * t + 9)

abbrev pub type_base : List ℕ → ℕ → ℕ
type_base types t = field_of types (48 * t + 10) 7

abbrev pub type_underlying : List ℕ → ℕ → ℕ
type_underlying types t = field_of types (48 * t + 17) 5

abbrev pub type_name : List ℕ → ℕ → Name
type_name types t = name_in types (48 * t + 22)

abbrev pub type_spare : List ℕ → ℕ → ℕ
type_spare types t = field_of types (48 * t + 42) 6

-- Property, 7 bytes: owner type 6, navigation 1, collection 1, nullable 1, contains 1, type reference 8, name, partner path, spare 3.
abbrev pub property_count : List ℕ → ℕ
property_count properties = length properties / 7

abbrev pub property_owner : List ℕ → ℕ → ℕ
property_owner properties p = field_of properties (56 * p) 6

abbrev pub property_navigation : List ℕ → ℕ → Bool
property_navigation properties p = flag_of properties (56 * p + 6)

abbrev pub property_collection : List ℕ → ℕ → Bool
property_collection properties p = flag_of properties (56 * p + 7)

abbrev pub property_nullable : List ℕ → ℕ → Bool
property_nullable properties p = flag_of properties (56 * p + 8)

abbrev pub property_contains : List ℕ → ℕ → Bool
property_contains properties p = flag_of properties (56 * p + 9)

abbrev pub property_type_ref : List ℕ → ℕ → ℕ
property_type_ref properties p = field_of properties (56 * p + 10) 8

abbrev pub property_name : List ℕ → ℕ → Name
property_name properties p = name_in properties (56 * p + 18)

abbrev pub property_partner : List ℕ → ℕ → Run
property_partner properties p = path_in properties (56 * p + 38)

abbrev pub property_spare : List ℕ → ℕ → ℕ
property_spare properties p = field_of properties (56 * p + 53) 3

-- Key, 6 bytes: owner type 6, path, alias name, spare 7.
abbrev pub key_count : List ℕ → ℕ
key_count keys = length keys / 6

abbrev pub key_owner : List ℕ → ℕ → ℕ
key_owner keys k = field_of keys (48 * k) 6

abbrev pub key_path : List ℕ → ℕ → Run
key_path keys k = path_in keys (48 * k + 6)

abbrev pub key_alias : List ℕ → ℕ → Name
key_alias keys k = name_in keys (48 * k + 21)

abbrev pub key_spare : List ℕ → ℕ → ℕ
key_spare keys k = field_of keys (48 * k + 41) 7

-- Constraint, 5 bytes: property 9, dependent path, principal path, spare 1.
abbrev pub constraint_count : List ℕ → ℕ
constraint_count constraints = length constraints / 5

abbrev pub constraint_property : List ℕ → ℕ → ℕ
constraint_property constraints c = field_of constraints (40 * c) 9

abbrev pub constraint_dependent : List ℕ → ℕ → Run
constraint_dependent constraints c = path_in constraints (40 * c + 9)

abbrev pub constraint_principal : List ℕ → ℕ → Run
constraint_principal constraints c = path_in constraints (40 * c + 24)

abbrev pub constraint_spare : List ℕ → ℕ → ℕ
constraint_spare constraints c = field_of constraints (40 * c + 39) 1

-- Child, 4 bytes: singleton 1 (0 is an entity set), nullable 1, type 6, name, spare 4.
abbrev pub child_count : List ℕ → ℕ
child_count children = length children / 4

abbrev pub child_singleton : List ℕ → ℕ → Bool
child_singleton children h = flag_of children (32 * h)

abbrev pub child_nullable : List ℕ → ℕ → Bool
child_nullable children h = flag_of children (32 * h + 1)

abbrev pub child_type : List ℕ → ℕ → ℕ
child_type children h = field_of children (32 * h + 2) 6

abbrev pub child_name : List ℕ → ℕ → Name
child_name children h = name_in children (32 * h + 8)

abbrev pub child_spare : List ℕ → ℕ → ℕ
child_spare children h = field_of children (32 * h + 28) 4

-- Binding, 6 bytes: child 6, path, target child 6, target path, spare 6.
abbrev pub binding_count : List ℕ → ℕ
binding_count bindings = length bindings / 6

abbrev pub binding_child : List ℕ → ℕ → ℕ
binding_child bindings b = field_of bindings (48 * b) 6

abbrev pub binding_path : List ℕ → ℕ → Run
binding_path bindings b = path_in bindings (48 * b + 6)

abbrev pub binding_target : List ℕ → ℕ → ℕ
binding_target bindings b = field_of bindings (48 * b + 21) 6

abbrev pub binding_target_path : List ℕ → ℕ → Run
binding_target_path bindings b = path_in bindings (48 * b + 27)

abbrev pub binding_spare : List ℕ → ℕ → ℕ
binding_spare bindings b = field_of bindings (48 * b + 42) 6

-- Segment, 3 bytes: cast 1, spare 3, name; for a cast the last 20 bits are a type number.
abbrev pub segment_count : List ℕ → ℕ
segment_count segments = length segments / 3

abbrev pub segment_cast : List ℕ → ℕ → Bool
segment_cast segments g = flag_of segments (24 * g)

abbrev pub segment_spare : List ℕ → ℕ → ℕ
segment_spare segments g = field_of segments (24 * g + 1) 3

abbrev pub segment_name : List ℕ → ℕ → Name
segment_name segments g = name_in segments (24 * g + 4)

abbrev pub segment_type : List ℕ → ℕ → ℕ
segment_type segments g = field_of segments (24 * g + 4) 20
