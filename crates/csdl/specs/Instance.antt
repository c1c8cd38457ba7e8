-- The instance image: nodes, slots and items, field by field, as the rules see them.
use Rattle.std.specs.Prelude.{ℕ, ◌+◌, ◌-◌, ◌*◌, ◌/◌, List, [], ◌∷◌, Bool, false, cond, not, ◌||◌, length, eqb, ltb}
use Rattle.packed.specs.Field.{field_of}
use Rattle.packed.specs.Bytes.{between}
use Rattle.csdl.specs.declared.Run.{Run}
use Rattle.csdl.specs.Image.{header, part_from}
use Rattle.csdl.specs.declared.InstanceRecord.{InstanceRecord}
use Rattle.csdl.specs.declared.InstanceRecord.TheVariants.{OfNode, OfSlot, OfItem, Outside}

-- The form of an item, which the version names: its bytes; the type reference has the first, the handle the rest. It is a parameter of the
-- reading of an instance, rule 20, rule 29 and the bytes of an item, and of nothing else.
pub record ItemForm : Type 0 where
  pub version : ℕ
  pub bytes : ℕ

abbrev pub handle_bytes : ItemForm → ℕ
handle_bytes form = form.bytes - 1

-- The form of document 01: the calls are at this one.
abbrev pub item_form : ItemForm
item_form = record { version = 0x0402; bytes = 4 }

abbrev pub item_bytes : ℕ
item_bytes = item_form.bytes

-- Node, 4 bytes: type 6, first slot 11, count 10, spare 5.
abbrev pub node_count : List ℕ → ℕ
node_count nodes = length nodes / 4

abbrev pub node_type_in : List ℕ → ℕ → ℕ
node_type_in nodes v = field_of nodes (32 * v) 6

abbrev pub node_slots_in : List ℕ → ℕ → Run
node_slots_in nodes v = record { first = field_of nodes (32 * v + 6) 11; count = field_of nodes (32 * v + 17) 10 }

abbrev pub node_spare_in : List ℕ → ℕ → ℕ
node_spare_in nodes v = field_of nodes (32 * v + 27) 5

-- Slot, 5 bytes: property 9, state 2 (0 null, 1 single, 2 collection), first item 12, count 12, spare 5.
abbrev pub slot_count : List ℕ → ℕ
slot_count slots = length slots / 5

abbrev pub slot_property_in : List ℕ → ℕ → ℕ
slot_property_in slots s = field_of slots (40 * s) 9

abbrev pub slot_state_in : List ℕ → ℕ → ℕ
slot_state_in slots s = field_of slots (40 * s + 9) 2

abbrev pub slot_items_in : List ℕ → ℕ → Run
slot_items_in slots s = record { first = field_of slots (40 * s + 11) 12; count = field_of slots (40 * s + 23) 12 }

abbrev pub slot_spare_in : List ℕ → ℕ → ℕ
slot_spare_in slots s = field_of slots (40 * s + 35) 5

-- Item, by its form: type reference 8, handle.
abbrev pub item_count_by : ItemForm → List ℕ → ℕ
item_count_by form items = length items / form.bytes

abbrev pub item_ref_by : ItemForm → List ℕ → ℕ → ℕ
item_ref_by form items k = field_of items (8 * form.bytes * k) 8

abbrev pub item_handle_by : ItemForm → List ℕ → ℕ → ℕ
item_handle_by form items k = field_of items (8 * form.bytes * k + 8) (8 * handle_bytes form)

abbrev pub item_count : List ℕ → ℕ
item_count items = item_count_by item_form items

abbrev pub item_ref_in : List ℕ → ℕ → ℕ
item_ref_in items k = item_ref_by item_form items k

abbrev pub item_handle_in : List ℕ → ℕ → ℕ
item_handle_in items k = item_handle_by item_form items k

pub record Instance : Type 0 where
  pub nodes : ℕ
  pub slots : ℕ
  pub items : ℕ
  -- node: its type and its run of slots
  pub node_type : ℕ → ℕ
  pub node_slots : ℕ → Run
  pub node_spare : ℕ → ℕ
  -- slot: the property, the state, the run of items
  pub slot_property : ℕ → ℕ
  pub state : ℕ → ℕ
  pub slot_items : ℕ → Run
  pub slot_spare : ℕ → ℕ
  -- item: the type reference and the handle
  pub item_ref : ℕ → ℕ
  pub item_handle : ℕ → ℕ

-- The instance in the three tables of an image.
abbrev pub instance_by : ItemForm → List ℕ → List ℕ → List ℕ → Instance
instance_by form nodes slots items =
    record {
      nodes = node_count nodes;
      slots = slot_count slots;
      items = item_count_by form items;
      node_type = λ v. node_type_in nodes v;
      node_slots = λ v. node_slots_in nodes v;
      node_spare = λ v. node_spare_in nodes v;
      slot_property = λ s. slot_property_in slots s;
      state = λ s. slot_state_in slots s;
      slot_items = λ s. slot_items_in slots s;
      slot_spare = λ s. slot_spare_in slots s;
      item_ref = λ k. item_ref_by form items k;
      item_handle = λ k. item_handle_by form items k;
    }

unfoldable pub instance_of : List ℕ → List ℕ → List ℕ → Instance
instance_of nodes slots items = instance_by item_form nodes slots items

-- The header is four 16-bit numbers: version, then the counts of nodes, slots and items. The tables follow in that order.
-- The bytes of a record of each, and where part k begins; part 3 is the end. What f makes of the three tables.
abbrev pub instance_part : ItemForm → List ℕ → ℕ → ℕ
instance_part form image k = part_from (λ i. header image i) 8 1 (4 ∷ 5 ∷ form.bytes ∷ []) k

abbrev pub of_tables : {A : Type 0} → ItemForm → (List ℕ → List ℕ → List ℕ → A) → List ℕ → A
of_tables form f image =
    f (between image 8 (instance_part form image 1)) (between image (instance_part form image 1) (instance_part form image 2))
    (between image (instance_part form image 2) (instance_part form image 3))

abbrev pub slots_from : List ℕ → ℕ
slots_from image = instance_part item_form image 1

abbrev pub items_from : List ℕ → ℕ
items_from image = instance_part item_form image 2

abbrev pub instance_end : List ℕ → ℕ
instance_end image = instance_part item_form image 3

unfoldable pub instance_in : List ℕ → Instance
instance_in image = of_tables item_form (λ nodes slots items. instance_of nodes slots items) image

-- Rule 20 (house), of the whole image.
-- 20a: fewer than 8 bytes.
abbrev pub image20a : List ℕ → Bool
image20a image = ltb (length image) 8

-- 20b: the version is not that of the form, 0402 in hexadecimal.
abbrev pub image20b : ItemForm → List ℕ → Bool
image20b form image = not (eqb (header image 0) form.version)

-- 20c: more than 256 nodes, 1024 slots or 2048 items.
abbrev pub image20c : List ℕ → Bool
image20c image = ltb 256 (header image 1) || ltb 1024 (header image 2) || ltb 2048 (header image 3)

-- 20d: the length is not the sum of the header and the tables.
abbrev pub image20d : ItemForm → List ℕ → Bool
image20d form image = not (eqb (length image) (instance_part form image 3))

abbrev pub image20_by : ItemForm → List ℕ → Bool
image20_by form image = image20a image || image20b form image || image20c image || image20d form image

unfoldable pub image20 : List ℕ → Bool
image20 image = image20_by item_form image

-- Places: nodes, then slots, then items.
abbrev pub slots_at : Instance → ℕ
slots_at i = i.nodes

abbrev pub items_at : Instance → ℕ
items_at i = slots_at i + i.slots

abbrev pub instance_places : Instance → ℕ
instance_places i = items_at i + i.items

unfoldable pub instance_record_at : Instance → ℕ → InstanceRecord
instance_record_at i place =
    cond (ltb place (slots_at i)) (OfNode place)
    (cond (ltb place (items_at i)) (OfSlot (place - slots_at i)) (cond (ltb place (instance_places i)) (OfItem (place - items_at i)) Outside))

-- A test of nodes, of slots or of items, as a test of any record.
abbrev pub on_node : (ℕ → Bool) → InstanceRecord → Bool
on_node test (OfNode v) = test v
on_node test (OfSlot s) = false
on_node test (OfItem k) = false
on_node test Outside = false

abbrev pub on_slot : (ℕ → Bool) → InstanceRecord → Bool
on_slot test (OfNode v) = false
on_slot test (OfSlot s) = test s
on_slot test (OfItem k) = false
on_slot test Outside = false

abbrev pub on_item : (ℕ → Bool) → InstanceRecord → Bool
on_item test (OfNode v) = false
on_item test (OfSlot s) = false
on_item test (OfItem k) = test k
on_item test Outside = false
