-- Rules 21 to 26 (house): an instance conforms to its model.
use Rattle.std.specs.Prelude.{ℕ, suc, List, [], ◌∷◌, Bool, false, cond, not, ◌&&◌, ◌||◌, eqb, ltb}
use Rattle.csdl.specs.Search.{first_from, any_from, count_from, one_if, if_found}
use Rattle.csdl.specs.Climb.{reaches}
use Rattle.csdl.specs.Model.{Model, in_run}
use Rattle.csdl.specs.Find.{structured, ancestor_or_self, is_name_of, integral}
use Rattle.csdl.specs.Form.{run4cd}
use Rattle.csdl.specs.Instance.{Instance, instance_in, image20, instance_places, instance_record_at, on_node, on_slot, on_item}
use Rattle.csdl.specs.Verdict.{Answer, Stage, verdict, model_then}
use Rattle.csdl.specs.Verdict.Answer.{accepted}
use Rattle.csdl.specs.Verdict.Stage.{whole, each}
use Rattle.csdl.specs.Image.{model_in}
use Rattle.csdl.specs.declared.InstanceRecord.{InstanceRecord}
use Rattle.csdl.specs.declared.InstanceRecord.TheVariants.{OfNode, OfSlot, OfItem, Outside}

-- Rule 21.
-- 21a, of a node: a spare bit, a type number not below the model's count, an empty run with first not 0, a run past the slots.
unfoldable pub node21a : Model → Instance → ℕ → Bool
node21a m i v = not (eqb (i.node_spare v) 0) || not (ltb (i.node_type v) m.types) || run4cd i.slots (i.node_slots v)

-- How many nodes have the slot in their run; how many slots have the item in theirs.
unfoldable pub nodes_with : Instance → ℕ → ℕ
nodes_with i s = count_from (λ v. in_run (i.node_slots v) s) 0 i.nodes

unfoldable pub slots_with : Instance → ℕ → ℕ
slots_with i k = count_from (λ s. in_run (i.slot_items s) k) 0 i.slots

-- The item count is unlike the state: a null slot has none, a single one has one.
unfoldable pub count_unlike : Instance → ℕ → Bool
count_unlike i s = eqb (i.state s) 0 && not (eqb (i.slot_items s).count 0) || eqb (i.state s) 1 && not (eqb (i.slot_items s).count 1)

-- 21b, of a slot: a spare bit, a property number not below the model's count, state 3, an item count unlike the state, an empty run with
-- first not 0, a run past the items, a slot in no node's run or in two.
unfoldable pub slot21b : Model → Instance → ℕ → Bool
slot21b m i s =
    not (eqb (i.slot_spare s) 0) || not (ltb (i.slot_property s) m.properties) || eqb (i.state s) 3 || count_unlike i s
    || run4cd i.items (i.slot_items s)
    || not (eqb (nodes_with i s) 1)

-- 21c, of an item: in no slot's run or in two.
unfoldable pub item21c : Instance → ℕ → Bool
item21c i k = not (eqb (slots_with i k) 1)

unfoldable pub rule21 : Model → Instance → InstanceRecord → Bool
rule21 m i (OfNode v) = node21a m i v
rule21 m i (OfSlot s) = slot21b m i s
rule21 m i (OfItem k) = item21c i k
rule21 m i Outside = false

-- Rule 22, of a node. 22a: its type is not structured. 22b: its type is abstract.
unfoldable pub node22 : Model → Instance → ℕ → Bool
node22 m i v = not (structured m (i.node_type v)) || m.is_abstract (i.node_type v)

abbrev pub rule22 : Model → Instance → InstanceRecord → Bool
rule22 m i r = on_node (λ v. node22 m i v) r

-- Rule 23, of a node: its slots are not its type's names, nearest declaration, once each. For each property: the number of the node's slots
-- that have it is not 1, if it is one of the type's names, or not 0, if it is none.
unfoldable pub slots_of : Instance → ℕ → ℕ → ℕ
slots_of i v p = count_from (λ s. eqb (i.slot_property s) p) (i.node_slots v).first (i.node_slots v).count

unfoldable pub node23 : Model → Instance → ℕ → Bool
node23 m i v = any_from (λ p. not (eqb (slots_of i v p) (one_if (is_name_of m (i.node_type v) p)))) 0 m.properties

abbrev pub rule23 : Model → Instance → InstanceRecord → Bool
rule23 m i r = on_node (λ v. node23 m i v) r

-- Rule 24, of a slot.
-- 24a: null on a collection, or not nullable. 24b: single on a collection. 24c: a collection on a single property.
abbrev pub slot24a : Model → Instance → ℕ → Bool
slot24a m i s = eqb (i.state s) 0 && (m.collection (i.slot_property s) || not (m.nullable (i.slot_property s)))

abbrev pub slot24b : Model → Instance → ℕ → Bool
slot24b m i s = eqb (i.state s) 1 && m.collection (i.slot_property s)

abbrev pub slot24c : Model → Instance → ℕ → Bool
slot24c m i s = eqb (i.state s) 2 && not (m.collection (i.slot_property s))

unfoldable pub slot24 : Model → Instance → ℕ → Bool
slot24 m i s = slot24a m i s || slot24b m i s || slot24c m i s

abbrev pub rule24 : Model → Instance → InstanceRecord → Bool
rule24 m i r = on_slot (λ s. slot24 m i s) r

-- The slot whose run has the item; the node whose run has the slot: 0 for none, else its number plus 1.
unfoldable pub slot_of_item : Instance → ℕ → ℕ
slot_of_item i k = first_from (λ s. in_run (i.slot_items s) k) 0 i.slots

unfoldable pub node_of_slot : Instance → ℕ → ℕ
node_of_slot i s = first_from (λ v. in_run (i.node_slots v) s) 0 i.nodes

-- The property of the slot that has the item: 0 for none, else its number plus 1.
abbrev pub item_property : Instance → ℕ → ℕ
item_property i k = if_found 0 (λ s. suc (i.slot_property s)) (slot_of_item i k)

-- A null item is 255 with handle 0.
unfoldable pub is_null : Instance → ℕ → Bool
is_null i k = eqb (i.item_ref k) 255 && eqb (i.item_handle k) 0

-- Item k carries its node's type, at type u, and the node's number.
unfoldable pub carries_node : Model → Instance → ℕ → ℕ → Bool
carries_node m i u k = ltb (i.item_handle k) i.nodes && eqb (i.item_ref k) (i.node_type (i.item_handle k)) && ancestor_or_self m u (i.item_ref k)

-- Rule 25, of an item of property p. 25a: null, and not in a nullable collection. 25b: not null, of a structured property, and it does not
-- carry a node's type, at the property's, with that node's number. 25c: not null, of another property, with another type reference.
unfoldable pub item25of : Model → Instance → ℕ → ℕ → Bool
item25of m i p k =
    cond (is_null i k) (not (m.collection p && m.nullable p))
    (cond (structured m (m.type_ref p)) (not (carries_node m i (m.type_ref p) k)) (not (eqb (i.item_ref k) (m.type_ref p))))

-- Of an item in no slot it asks nothing: rule 21 refuses that.
unfoldable pub item25 : Model → Instance → ℕ → Bool
item25 m i k = if_found false (λ p. item25of m i p k) (item_property i k)

abbrev pub rule25 : Model → Instance → InstanceRecord → Bool
rule25 m i r = on_item (λ k. item25 m i k) r

-- Rule 26, of a node. Item k stands in a slot of an integral property.
abbrev pub integral_item : Model → Instance → ℕ → Bool
integral_item m i k = if_found false (λ p. integral m p) (item_property i k)

-- Item k is integral and holds node w.
unfoldable pub holds_item : Model → Instance → ℕ → ℕ → Bool
holds_item m i w k = eqb (i.item_handle k) w && not (is_null i k) && integral_item m i k

-- The node in whose slot item k stands: 0 for none, else its number plus 1.
abbrev pub node_of_item : Instance → ℕ → ℕ
node_of_item i k = if_found 0 (λ s. node_of_slot i s) (slot_of_item i k)

-- Node v holds node w through an integral item.
unfoldable pub holds_node : Model → Instance → ℕ → ℕ → Bool
holds_node m i v w = any_from (λ k. holds_item m i w k && eqb (node_of_item i k) (suc v)) 0 i.items

-- 26a: two integral items hold the node.
abbrev pub node26a : Model → Instance → ℕ → Bool
node26a m i w = ltb 1 (count_from (λ k. holds_item m i w k) 0 i.items)

-- 26b: the node is within itself through integral items.
abbrev pub node26b : Model → Instance → ℕ → Bool
node26b m i w = reaches (λ a b. holds_node m i a b) i.nodes w w

unfoldable pub node26 : Model → Instance → ℕ → Bool
node26 m i w = node26a m i w || node26b m i w

abbrev pub rule26 : Model → Instance → InstanceRecord → Bool
rule26 m i r = on_node (λ w. node26 m i w) r

-- Rules 21 to 26 of an instance.
abbrev pub instance_broken_at : Model → Instance → (Model → Instance → InstanceRecord → Bool) → ℕ → Bool
instance_broken_at m i rule place = rule m i (instance_record_at i place)

unfoldable pub instance_stages : Model → Instance → List Stage
instance_stages m i =
    each 21 (instance_broken_at m i rule21) ∷ each 22 (instance_broken_at m i rule22) ∷ each 23 (instance_broken_at m i rule23) ∷ each 24 (instance_broken_at m i rule24) ∷ each 25 (instance_broken_at m i rule25)
    ∷ each 26 (instance_broken_at m i rule26) ∷ []

-- Rules 1 and 3 to 19 of the model, then 20 to 26 of the instance, then what follows.
unfoldable pub instance_then : List ℕ → List ℕ → Answer → Answer
instance_then model image otherwise =
    let i = instance_in image in
    model_then model (verdict 0 (whole 20 (image20 image) ∷ []) (verdict (instance_places i) (instance_stages (model_in model) i) otherwise))

-- The check of an instance.
unfoldable pub instance_answer : List ℕ → List ℕ → Answer
instance_answer model image = instance_then model image (accepted [])
