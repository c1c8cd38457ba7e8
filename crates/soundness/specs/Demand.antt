-- What demand 3 says of one walk: from node v along the segments gs, which end at type reference u.
use Rattle.std.specs.Prelude.{ℕ, suc, ◌+◌, ◌≤◌, ◌<◌, ◌≡◌, Bool, true, false, length}
use mathlib.Core.List.{List, [], ◌∷◌, ◌++◌, Memᴰ}
use Rattle.csdl.specs.Search.{all, but_last}
use Rattle.csdl.specs.Model.{Model, present, properties_at, keys_at, constraints_at, bindings_at}
use Rattle.csdl.specs.Find.{ancestor_or_self, structured, integral}
use Rattle.csdl.specs.Path.{Segment, holders, path_of, steps_of, properties}
use Rattle.csdl.specs.declared.PathKind.{PathKind}
use Rattle.csdl.specs.declared.PathKind.TheVariants.{Partner, Key, Dependent, Principal, Binding, Target}
use Rattle.csdl.specs.Path.Segment.{name, cast}
use Rattle.csdl.specs.Instance.{Instance}
use Rattle.csdl.specs.Accepted.{NullIn}
use Rattle.csdl.specs.Walk.{Item, Origin, slot_named, walked, opened, reaches_end, start}
use Rattle.csdl.specs.Walk.Item.{null, value}
use Rattle.csdl.specs.Walk.Origin.{at_slot, at-cast}
use Rattle.soundness.specs.Lists.{All, Distinct}

-- Record r holds a path of the kind.
pub record Held (m : Model) (w : PathKind) (r : ℕ) : Type 0 where
  pub holder-there : r < holders m w
  pub path-there : present (path_of m w r) ≡ true

-- The place of the record that holds it, and the number by which a walk asks for it there: 1 for the principal and the target path, else 0.
unfoldable pub held_place : Model → PathKind → ℕ → ℕ
held_place m Partner p = properties_at m + p
held_place m Key k = keys_at m + k
held_place m Dependent c = constraints_at m + c
held_place m Principal c = constraints_at m + c
held_place m Binding b = bindings_at m + b
held_place m Target b = bindings_at m + b

unfoldable pub held_number : PathKind → ℕ
held_number Partner = 0
held_number Key = 0
held_number Dependent = 0
held_number Principal = 1
held_number Binding = 0
held_number Target = 1

-- Along the path from type t, each name but the last means an integral property: a complex or a containment one.
unfoldable pub inner_integral : Model → ℕ → List Segment → Bool
inner_integral m t gs = all (λ p. integral m p) (but_last (properties (steps_of m t gs)))

-- A node's number, and r its type.
abbrev pub NodeOf : Instance → ℕ → ℕ → Type 0
NodeOf i r v = (v < i.nodes) × (i.node_type v ≡ r)

-- The item is null, or it lies at type reference u; one of structured type is a node of that type.
unfoldable pub LiesAt : Model → Instance → ℕ → Item → Type 0
LiesAt m i u (null o) = Unit {0}
LiesAt m i u (value r v) = (ancestor_or_self m u r ≡ true) × (structured m r ≡ true → NodeOf i r v)

-- A null of the walk from node v along gs came in at slot s: at a name of the path, which opened it in node w, one of the items that the walk has
-- before that name; its property is nullable, and it is null or holds a null item.
pub record FromSlot (m : Model) (i : Instance) (gs : List Segment) (v s : ℕ) : Type 0 where
  pub before : List Segment
  pub named : List ℕ
  pub later : List Segment
  pub path-is : gs ≡ before ++ (name named ∷ later)
  pub node : ℕ
  pub met : Memᴰ (value (i.node_type node) node) (walked m i before (start i v))
  pub opens : slot_named m i named node ≡ suc s
  pub was_opened : Memᴰ s (opened m i gs (start i v))
  pub in_table : s < i.slots
  pub may_be_null : m.nullable (i.slot_property s) ≡ true
  pub null_in : NullIn i s

-- It came in at a cast of the path to type c, in the place of node w: w is among the items that the walk has before that cast, and it is not at c.
pub record FromCast (m : Model) (i : Instance) (gs : List Segment) (v c w : ℕ) : Type 0 where
  pub before : List Segment
  pub later : List Segment
  pub path-is : gs ≡ before ++ (cast c ∷ later)
  pub met : Memᴰ (value (i.node_type w) w) (walked m i before (start i v))
  pub in_table : w < i.nodes
  pub not_at : ancestor_or_self m c (i.node_type w) ≡ false

-- A null came in rightly.
unfoldable pub HasOrigin : Model → Instance → List Segment → ℕ → Origin → Type 0
HasOrigin m i gs v (at_slot s) = FromSlot m i gs v s
HasOrigin m i gs v (at-cast c w) = FromCast m i gs v c w

-- If the item is null, its null came in rightly.
unfoldable pub NullHasOrigin : Model → Instance → List Segment → ℕ → Item → Type 0
NullHasOrigin m i gs v (null o) = HasOrigin m i gs v o
NullHasOrigin m i gs v (value r w) = Unit {0}

-- Demand 3 of the walk.
pub record Demand (m : Model) (i : Instance) (gs : List Segment) (u v : ℕ) : Type 0 where
  -- every segment is taken
  pub to_its_end : reaches_end m i gs (start i v) ≡ true
  -- each result is null or lies at u
  pub each_result : All (LiesAt m i u) (walked m i gs (start i v))
  -- each null came in rightly
  pub each-null : All (NullHasOrigin m i gs v) (walked m i gs (start i v))
  -- no slot is opened twice, and no more are opened than there are
  pub none_twice : Distinct (opened m i gs (start i v))
  pub at_most : length (opened m i gs (start i v)) ≤ i.slots
  -- the results fit into the stated buffer
  pub results_fit : length (walked m i gs (start i v)) ≤ 1 + i.slots + i.items

-- Demand 3 of a key path: exactly one result, and it is not null; each segment opens one slot.
pub record One (m : Model) (i : Instance) (gs : List Segment) (v : ℕ) : Type 0 where
  pub type : ℕ
  pub handle : ℕ
  pub only : walked m i gs (start i v) ≡ value type handle ∷ []
  pub opened-all : length (opened m i gs (start i v)) ≡ length gs
