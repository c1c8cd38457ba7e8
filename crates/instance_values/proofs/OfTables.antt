-- Rules 23 and 25 are of the tables that they name, however many slots there are, and rule 25 however many properties. Assumes nothing.
use Prim.Native.Nat.{ℕ}
use mathlib.Core.Path.{◌≡◌, refl}
use mathlib.Core.List.{[]}
use Rattle.csdl.specs.Conforms.{slot_of_item, is_null, carries_node, item25of, item25, slots_of, node23}
use Rattle.csdl.specs.Find.{structured, ancestor, ancestor_or_self, declares, own, find, is_name_of}
use Rattle.csdl.specs.Instance.{instance_of, node_count, item_count}
use Rattle.csdl.specs.Model.{model_of}
use Rattle.instance_image.specs.Read.{instance_read}
use Rattle.instance_image.specs.declared.instance.Instance.{Instance}
use Rattle.model_image.specs.Limits.{FewProperties}
use Rattle.model_image.specs.Read.{model_read}
use Rattle.model_image.specs.declared.model.Model.{Model}
use Rattle.model_image.proofs.Counting.{all_properties}

module _ (m : Model) (i : Instance) where
  pub nodes_counted : (instance_read i).nodes ≡ node_count i.nodes.now
  unfolding instance_read instance_of
  nodes_counted = refl

  pub items_counted : (instance_read i).items ≡ item_count i.items.now
  unfolding instance_read instance_of
  items_counted = refl

  pub slot_of_tables : (k : ℕ) → slot_of_item (instance_read i) k ≡ slot_of_item (instance_of [] i.slots.now []) k
  unfolding instance_read instance_of slot_of_item
  slot_of_tables k = refl

  pub item_of_tables : (k : ℕ)
      → item25 (model_read m) (instance_read i) k ≡ item25 (model_of [] m.types.now m.properties.now [] [] [] [] [] []) (instance_of i.nodes.now i.slots.now i.items.now) k
  unfolding model_read model_of instance_read instance_of slot_of_item is_null carries_node item25of item25 structured ancestor ancestor_or_self
  item_of_tables k = refl

  pub node_of_tables : FewProperties m.properties.now → (v : ℕ)
      → node23 (model_read m) (instance_read i) v ≡ node23 (model_of [] m.types.now m.properties.now [] [] [] [] [] m.names.now) (instance_of i.nodes.now i.slots.now []) v
  unfolding model_read model_of instance_read instance_of slots_of node23 is_name_of find own declares
  node_of_tables few v = rw (all_properties m few)
