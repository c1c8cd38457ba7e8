-- What the rules say of an accepted model and an accepted instance, as the proofs use it.
use Prim.Native.Nat.{ℕ, zero, suc, ◌+◌, ◌≤◌, ◌<◌}
use mathlib.Core.Path.{◌≡◌}
use mathlib.Core.Bool.{true, false}
use Rattle.csdl.specs.Search.{one_if}
use Rattle.csdl.specs.Model.{Model, in_run}
use Rattle.csdl.specs.Find.{ancestor, is_name_of, structured, complex}
use Rattle.csdl.specs.Properties.{same_name, redeclares}
use Rattle.csdl.specs.Instance.{Instance}
use Rattle.csdl.specs.Conforms.{slots_of, nodes_with, slots_with, item25of}
use Rattle.csdl.specs.Relations.{Holds}

pub record ModelFacts (m : Model) : Type 0 where
  -- 4: a base is below the count; past the table it reads 0
  pub base-small : (t : ℕ) → t < m.types → m.base t ≤ m.types
  pub base-none : (t : ℕ) → m.types ≤ t → m.base t ≡ 0
  -- 8a: the base is of the type's kind
  pub base-kind : (t u : ℕ) → t < m.types → m.base t ≡ suc u → m.kind t ≡ m.kind u
  -- 10b, 10c: a navigation property has a structured type; a structural one of structured type has a complex one
  pub navigates : (p : ℕ) → p < m.properties → m.navigation p ≡ true → structured m (m.type_ref p) ≡ true
  pub structural : (p : ℕ) → p < m.properties → m.navigation p ≡ false → structured m (m.type_ref p) ≡ true → complex m (m.type_ref p) ≡ true
  -- 11b: a property with the name of one of an ancestor may redeclare it
  pub redeclared : (p q : ℕ) → p < m.properties → q < m.properties → ancestor m (m.owner q) (m.owner p) ≡ true → same_name m p q ≡ true →
      redeclares m p q ≡ true

-- w is d steps within a, through integral items.
unfoldable pub Deep : Model → Instance → ℕ → ℕ → ℕ → Type 0
Deep m i a zero w = w ≡ a
Deep m i a (suc d) w = (v : ℕ) × Holds m i v w × Deep m i a d v

pub record InstanceFacts (m : Model) (i : Instance) : Type 0 where
  -- 21
  pub type-small : (v : ℕ) → v < i.nodes → i.node_type v < m.types
  pub slots_fit : (v s : ℕ) → v < i.nodes → in_run (i.node_slots v) s ≡ true → s < i.slots
  pub property-small : (s : ℕ) → s < i.slots → i.slot_property s < m.properties
  pub state_known : (s : ℕ) → s < i.slots → i.state s ≤ 2
  pub single-one : (s : ℕ) → s < i.slots → i.state s ≡ 1 → (i.slot_items s).count ≡ 1
  pub items_fit : (s : ℕ) → s < i.slots → (i.slot_items s).first + (i.slot_items s).count ≤ i.items
  pub slot-once : (s : ℕ) → s < i.slots → nodes_with i s ≡ 1
  pub item-once : (k : ℕ) → k < i.items → slots_with i k ≡ 1
  -- 23
  pub slots-named : (v p : ℕ) → v < i.nodes → p < m.properties → slots_of i v p ≡ one_if (is_name_of m (i.node_type v) p)
  -- 24
  pub null-fits : (s : ℕ) → s < i.slots → i.state s ≡ 0 → m.nullable (i.slot_property s) ≡ true
  pub many_fits : (s : ℕ) → s < i.slots → i.state s ≡ 2 → m.collection (i.slot_property s) ≡ true
  -- 25
  pub item-fits : (s k : ℕ) → s < i.slots → in_run (i.slot_items s) k ≡ true → item25of m i (i.slot_property s) k ≡ false
  -- 26
  pub held_once : (v x w : ℕ) (h : Holds m i v w) (g : Holds m i x w) → h.item ≡ g.item
  pub not_within : (d v : ℕ) → Deep m i v (suc d) v → ⊥
