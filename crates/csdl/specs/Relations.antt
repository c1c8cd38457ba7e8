-- The relations behind rules 9, 12 and 26, as the paper says them.
use Rattle.std.specs.Prelude.{ℕ, suc, ◌+◌, ◌≤◌, ◌<◌, ◌≡◌, List, true, false, ◌⊎◌}
use Rattle.csdl.specs.Model.{Model, property_text, in_run}
use Rattle.csdl.specs.Find.{integral}
use Rattle.csdl.specs.Path.{holders, path_of}
use Rattle.csdl.specs.declared.PathKind.{PathKind}
use Rattle.csdl.specs.Instance.{Instance}
use Rattle.csdl.specs.Conforms.{is_null}

-- Every base is none or a type of the model.
abbrev pub Closed : Model → Type 0
Closed m = (t : ℕ) → t < m.types → m.base t ≤ m.types

-- What rule 4 leaves: each number is below its count, each path lies within the segments.
pub record NumbersFit (m : Model) : Type 0 where
  pub schema-there : (t : ℕ) → t < m.types → m.schema_of t < m.schemas
  pub base_there : Closed m
  pub kind_known : (t : ℕ) → t < m.types → m.kind t ≤ 3
  pub underlying_known : (t : ℕ) → t < m.types → m.underlying t ≤ 17
  pub owner-there : (p : ℕ) → p < m.properties → m.owner p < m.types
  pub reference_known : (p : ℕ) → p < m.properties → (m.type_ref p < m.types) ⊎ ((65 ≤ m.type_ref p) × (m.type_ref p ≤ 81))
  pub key_owner-there : (k : ℕ) → k < m.keys → m.key_owner k < m.types
  pub constrained-there : (c : ℕ) → c < m.constraints → m.constrained c < m.properties
  pub child_type-there : (h : ℕ) → h < m.children → m.child_type h < m.types
  pub binding_child_there : (b : ℕ) → b < m.bindings → m.binding_child b < m.children
  pub target-there : (b : ℕ) → b < m.bindings → m.target b < m.children
  pub path-there : (w : PathKind) (r : ℕ) → r < holders m w → (path_of m w r).first + (path_of m w r).count ≤ m.segments
  pub cast-there : (g : ℕ) → g < m.segments → m.is_cast g ≡ true → m.cast_type g < m.types

-- Ancestors of a type are its base, that base's base, and so on. A base is 0 for none, else type number + 1.
pub data Ancestor (m : Model) (a : ℕ) : ℕ → Type 0 where
  its_base : {t : ℕ} → m.base t ≡ suc a → Ancestor m a t
  above_base : {t u : ℕ} → m.base t ≡ suc u → Ancestor m a u → Ancestor m a t

-- Property p is declared on type t under the name. A name means, at a type, the declaration on the type itself, else on its nearest ancestor.
pub record Declares (m : Model) (nm : List ℕ) (t p : ℕ) : Type 0 where
  pub in_table : p < m.properties
  pub owner-is : m.owner p ≡ t
  pub name-is : property_text m p ≡ nm

pub data Means (m : Model) (nm : List ℕ) : ℕ → ℕ → Type 0 where
  on-itself : {t p : ℕ} → Declares m nm t p → Means m nm t p
  at_base : {t u p : ℕ} → ((q : ℕ) → Declares m nm t q → ⊥) → m.base t ≡ suc u → Means m nm u p → Means m nm t p

-- A step of rule 12 from t: a property of t or of an ancestor, single, not nullable, complex or containment; it goes to the property's type.
pub data Belongs (m : Model) (t : ℕ) : ℕ → Type 0 where
  itself : {p : ℕ} → m.owner p ≡ t → Belongs m t p
  inherited : {p : ℕ} → Ancestor m (m.owner p) t → Belongs m t p

pub record Requires (m : Model) (t u : ℕ) : Type 0 where
  pub property : ℕ
  pub in_table : property < m.properties
  pub belongs : Belongs m t property
  pub single : m.collection property ≡ false
  pub not-nullable : m.nullable property ≡ false
  pub complex-or_contained : integral m property ≡ true
  pub leads_to : m.type_ref property ≡ u

-- One or more steps.
pub data Reaches (m : Model) (a : ℕ) : ℕ → Type 0 where
  one : {b : ℕ} → Requires m a b → Reaches m a b
  more : {b c : ℕ} → Reaches m a c → Requires m c b → Reaches m a b

-- Rule 26: node v holds node w through an integral item: the item stands in a slot of v, that slot's property is integral, and the item is
-- not null and has w's number.
pub record Holds (m : Model) (i : Instance) (v w : ℕ) : Type 0 where
  pub slot : ℕ
  pub item : ℕ
  pub node-there : v < i.nodes
  pub slot-there : slot < i.slots
  pub item-there : item < i.items
  pub of_node : in_run (i.node_slots v) slot ≡ true
  pub of_slot : in_run (i.slot_items slot) item ≡ true
  pub is-integral : integral m (i.slot_property slot) ≡ true
  pub not_null : is_null i item ≡ false
  pub number : i.item_handle item ≡ w

-- Two different integral items hold the node.
pub record HeldTwice (m : Model) (i : Instance) (w : ℕ) : Type 0 where
  pub node : ℕ
  pub other-node : ℕ
  pub holds : Holds m i node w
  pub other-holds : Holds m i other-node w
  pub other_item : holds.item ≡ other-holds.item → ⊥

-- w is within a, through integral items.
pub data Within (m : Model) (i : Instance) (a : ℕ) : ℕ → Type 0 where
  directly : {w : ℕ} → Holds m i a w → Within m i a w
  deeper : {v w : ℕ} → Within m i a v → Holds m i v w → Within m i a w
