-- Every record of every table has its place, and every node, slot and item: what is unbroken at every place is unbroken at every record.
use Prim.Native.Nat.{ℕ, ◌+◌, ◌-◌, ◌<◌}
use mathlib.Core.Path.{◌≡◌}
use mathlib.Core.Bool.{Bool, false}
use native.Mathlib.Omega.{arith}
use borrow.Author.Tests.{lt-ltb, le-ltb}
use Rattle.csdl.specs.Model.{Model, types_at, properties_at, keys_at, constraints_at, children_at, bindings_at, segments_at, places, record_at}
use Rattle.csdl.specs.Instance.{Instance, slots_at, items_at, instance_places, instance_record_at}
use Rattle.csdl.specs.Accepted.{Kept, Fulfilled}
use Rattle.csdl.specs.declared.Record.{Record}
use Rattle.csdl.specs.declared.Record.TheVariants.{OfSchema, OfType, OfProperty, OfKey, OfConstraint, OfChild, OfBinding, OfSegment}
use Rattle.csdl.specs.declared.InstanceRecord.{InstanceRecord}
use Rattle.csdl.specs.declared.InstanceRecord.TheVariants.{OfNode, OfSlot, OfItem}

from_start : (a k : ℕ) → a + k - a ≡ k
from_start a k = omega arith

-- The record at a place of each table.
module _ (m : Model) (k : ℕ) where
  pub schema-at : k < m.schemas → record_at m k ≡ OfSchema k
  unfolding record_at
  schema-at h = rw (lt-ltb k (types_at m) h)

  pub type_at : k < m.types → record_at m (types_at m + k) ≡ OfType k
  unfolding record_at
  type_at h =
      let p = types_at m + k in
      rw (le-ltb p (types_at m) (omega arith), lt-ltb p (properties_at m) (omega arith), from_start (types_at m) k)

  pub property-at : k < m.properties → record_at m (properties_at m + k) ≡ OfProperty k
  unfolding record_at
  property-at h =
      let p = properties_at m + k in
      rw (le-ltb p (types_at m) (omega arith), le-ltb p (properties_at m) (omega arith), lt-ltb p (keys_at m) (omega arith), from_start (properties_at m) k)

  pub key_at : k < m.keys → record_at m (keys_at m + k) ≡ OfKey k
  unfolding record_at
  key_at h =
      let p = keys_at m + k in
      rw (
        le-ltb p (types_at m) (omega arith),
        le-ltb p (properties_at m) (omega arith),
        le-ltb p (keys_at m) (omega arith),
        lt-ltb p (constraints_at m) (omega arith),
        from_start (keys_at m) k,
      )

  pub constraint_at : k < m.constraints → record_at m (constraints_at m + k) ≡ OfConstraint k
  unfolding record_at
  constraint_at h =
      let p = constraints_at m + k in
      rw (
        le-ltb p (types_at m) (omega arith),
        le-ltb p (properties_at m) (omega arith),
        le-ltb p (keys_at m) (omega arith),
        le-ltb p (constraints_at m) (omega arith),
        lt-ltb p (children_at m) (omega arith),
        from_start (constraints_at m) k,
      )

  pub child_at : k < m.children → record_at m (children_at m + k) ≡ OfChild k
  unfolding record_at
  child_at h =
      let p = children_at m + k in
      rw (
        le-ltb p (types_at m) (omega arith),
        le-ltb p (properties_at m) (omega arith),
        le-ltb p (keys_at m) (omega arith),
        le-ltb p (constraints_at m) (omega arith),
        le-ltb p (children_at m) (omega arith),
        lt-ltb p (bindings_at m) (omega arith),
        from_start (children_at m) k,
      )

  pub binding_at : k < m.bindings → record_at m (bindings_at m + k) ≡ OfBinding k
  unfolding record_at
  binding_at h =
      let p = bindings_at m + k in
      rw (
        le-ltb p (types_at m) (omega arith),
        le-ltb p (properties_at m) (omega arith),
        le-ltb p (keys_at m) (omega arith),
        le-ltb p (constraints_at m) (omega arith),
        le-ltb p (children_at m) (omega arith),
        le-ltb p (bindings_at m) (omega arith),
        lt-ltb p (segments_at m) (omega arith),
        from_start (bindings_at m) k,
      )

  pub segment_at_lem : k < m.segments → record_at m (segments_at m + k) ≡ OfSegment k
  unfolding record_at
  segment_at_lem h =
      let p = segments_at m + k in
      rw (
        le-ltb p (types_at m) (omega arith),
        le-ltb p (properties_at m) (omega arith),
        le-ltb p (keys_at m) (omega arith),
        le-ltb p (constraints_at m) (omega arith),
        le-ltb p (children_at m) (omega arith),
        le-ltb p (bindings_at m) (omega arith),
        le-ltb p (segments_at m) (omega arith),
        lt-ltb p (places m) (omega arith),
        from_start (segments_at m) k,
      )

-- A rule that is kept is kept at every record of each table.
module _ (m : Model) (rule : Model → Record → Bool) (kept : Kept m rule) (k : ℕ) where
  pub of_type : k < m.types → rule m (OfType k) ≡ false
  of_type h = rw (← type_at m k h) (kept (types_at m + k) (omega arith))

  pub of_property_lem : k < m.properties → rule m (OfProperty k) ≡ false
  of_property_lem h = rw (← property-at m k h) (kept (properties_at m + k) (omega arith))

  pub of_key : k < m.keys → rule m (OfKey k) ≡ false
  of_key h = rw (← key_at m k h) (kept (keys_at m + k) (omega arith))

  pub of_constraint : k < m.constraints → rule m (OfConstraint k) ≡ false
  of_constraint h = rw (← constraint_at m k h) (kept (constraints_at m + k) (omega arith))

  pub of_child : k < m.children → rule m (OfChild k) ≡ false
  of_child h = rw (← child_at m k h) (kept (children_at m + k) (omega arith))

  pub of_binding : k < m.bindings → rule m (OfBinding k) ≡ false
  of_binding h = rw (← binding_at m k h) (kept (bindings_at m + k) (omega arith))

  pub of_segment : k < m.segments → rule m (OfSegment k) ≡ false
  of_segment h = rw (← segment_at_lem m k h) (kept (segments_at m + k) (omega arith))

-- The record at a place of each table of an instance.
module _ (i : Instance) (k : ℕ) where
  pub node_at : k < i.nodes → instance_record_at i k ≡ OfNode k
  unfolding instance_record_at
  node_at h = rw (lt-ltb k (slots_at i) h)

  pub slot_at : k < i.slots → instance_record_at i (slots_at i + k) ≡ OfSlot k
  unfolding instance_record_at
  slot_at h = let p = slots_at i + k in rw (le-ltb p (slots_at i) (omega arith), lt-ltb p (items_at i) (omega arith), from_start (slots_at i) k)

  pub item-at : k < i.items → instance_record_at i (items_at i + k) ≡ OfItem k
  unfolding instance_record_at
  item-at h =
      let p = items_at i + k in
      rw (le-ltb p (slots_at i) (omega arith), le-ltb p (items_at i) (omega arith), lt-ltb p (instance_places i) (omega arith), from_start (items_at i) k)

module _ (m : Model) (i : Instance) (rule : Model → Instance → InstanceRecord → Bool) (kept : Fulfilled m i rule) (k : ℕ) where
  pub of_node : k < i.nodes → rule m i (OfNode k) ≡ false
  of_node h = rw (← node_at i k h) (kept k (omega arith))

  pub of_slot : k < i.slots → rule m i (OfSlot k) ≡ false
  of_slot h = rw (← slot_at i k h) (kept (slots_at i + k) (omega arith))

  pub of_item : k < i.items → rule m i (OfItem k) ≡ false
  of_item h = rw (← item-at i k h) (kept (items_at i + k) (omega arith))
