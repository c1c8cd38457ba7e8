-- What the code sees of a walk: items as type references and handles, with no origin of a null; the walk of one item; one step of it.
use Rattle.std.specs.Prelude.{ℕ, ◌≡◌, List, [], ◌∷◌, cond, ◌&&◌, ◌||◌, length, eqb, Bool, Option, Some, None}
use Rattle.csdl.specs.Search.{tab, flat, if_found}
use Rattle.csdl.specs.Model.{Model, text}
use Rattle.csdl.specs.Find.{structured, ancestor_or_self}
use Rattle.csdl.specs.Path.{Segment, segment_at}
use Rattle.csdl.specs.Instance.{Instance}
use Rattle.csdl.specs.Walk.{Item, slot_named, opening, opened_by, after, walked, opened, bytes_of_item}
use Rattle.csdl.specs.Walk.Item.{null, value}
use Rattle.csdl.specs.Walk.Origin.{at_slot}
use Rattle.walk_step.specs.declared.Next.{Next}
use Rattle.walk_step.specs.declared.Item.{Item as Seen}

-- A null is 255 with handle 0.
abbrev pub null_code : ℕ → ℕ → Bool
null_code t v = eqb t 255 && eqb v 0

-- The item of a type reference and a handle.
unfoldable pub item_of : ℕ → ℕ → Item
item_of t v = cond (null_code t v) (null (at_slot 0)) (value t v)

-- An item without the origin of its null.
unfoldable pub erase : Item → Item
erase (null o) = null (at_slot 0)
erase (value r v) = value r v

unfoldable pub erased : List Item → List Item
erased [] = []
erased (x ∷ l) = erase x ∷ erased l

-- The segments that are left, from segment k on.
unfoldable pub path_from : Model → ℕ → ℕ → List Segment
path_from m k left = tab (λ g. segment_at m g) k left

-- The walk of one item along them: the bytes of its results, and the slots that it opens.
unfoldable pub written : Model → Instance → ℕ → ℕ → ℕ → ℕ → List ℕ
written m i k left t v = flat (λ x. bytes_of_item x) (walked m i (path_from m k left) (item_of t v ∷ []))

unfoldable pub openings : Model → Instance → ℕ → ℕ → ℕ → ℕ → List ℕ
openings m i k left t v = opened m i (path_from m k left) (item_of t v ∷ [])

-- The walk of an item ends: no segment is left, or it is null.
abbrev pub stops_at : ℕ → ℕ → ℕ → Bool
stops_at left t v = eqb left 0 || null_code t v

-- What takes an item's place: one item of its own, or nothing.
abbrev pub own_next : ℕ → Seen → Next
own_next opened x = record { opened = opened; own = Some x; first = 0; count = 1 }

abbrev pub no_next : Next
no_next = record { opened = 0; own = None; first = 0; count = 0 }

-- The null that takes it.
abbrev pub null_seen : Seen
null_seen = record { t = 255; v = 0 }

-- What stands in a slot: null, or a run of the table of items.
unfoldable pub contents_of : Instance → ℕ → Next
contents_of i s =
    cond (eqb (i.state s) 0) (own_next 1 null_seen)
    (record { opened = 1; own = None; first = (i.slot_items s).first; count = (i.slot_items s).count })

-- A node where it stays, else null.
abbrev pub kept_next : Bool → Seen → Next
kept_next kept x = cond kept (own_next 0 x) (own_next 0 null_seen)

-- What takes the place of an item at segment k: a cast keeps a node at its type, a name opens the node's slot of that name.
unfoldable pub next_at : Model → Instance → ℕ → Seen → Next
next_at m i k x =
    cond (structured m x.t)
    (cond (m.is_cast k) (kept_next (ancestor_or_self m (m.cast_type k) x.t) x)
    (if_found no_next (λ s. contents_of i s) (slot_named m i (text m (m.segment_name k)) x.v)))
    no_next

-- Item q of what comes next: its own, or one of the table of items.
abbrev pub own_or : Option Seen → Seen → Seen
own_or None y = y
own_or (Some x) y = x

unfoldable pub item_in : Instance → Next → ℕ → Seen
item_in i next q = own_or next.own (record { t = i.item_ref q; v = i.item_handle q })

-- What comes next is what takes the place of an item r, h at a segment.
pub record StepIs (m : Model) (i : Instance) (g : Segment) (r h : ℕ) (next : Next) : Type 0 where
  pub next-is : erased (after m i g (value r h)) ≡ tab (λ q. item_of (item_in i next q).t (item_in i next q).v) next.first next.count
  pub opening-is : next.opened ≡ length (opened_by (opening m i g (value r h)))
