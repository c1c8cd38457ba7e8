-- The walk of a path through an instance, with its trace: the items at each stage, the slots opened, where each null came in, and whether
-- it reaches its end.
use Rattle.std.specs.Prelude.{ℕ, zero, suc, ◌+◌, ◌-◌, ◌*◌, ◌/◌, ◌%◌, ◌^◌, List, [], ◌∷◌, ◌++◌, Bool, true, false, cond, not, ◌&&◌, ◌||◌, length, eqb, ltb, Option, Some, None}
use Rattle.packed.specs.Bytes.{same}
use Rattle.csdl.specs.Search.{first_from, tab, flat, all, if_found}
use Rattle.csdl.specs.Model.{Model, property_text, present, record_at}
use Rattle.csdl.specs.Find.{structured, ancestor_or_self}
use Rattle.csdl.specs.Path.{Segment, no_reference, segments_of, path_of, start_of}
use Rattle.csdl.specs.declared.PathKind.{PathKind}
use Rattle.csdl.specs.Path.Segment.{name, cast}
use Rattle.csdl.specs.declared.PathKind.TheVariants.{Partner, Key, Dependent, Principal, Binding, Target}
use Rattle.csdl.specs.Instance.{Instance, ItemForm, item_form, handle_bytes, instance_in}
use Rattle.csdl.specs.Conforms.{is_null, instance_then}
use Rattle.csdl.specs.Image.{model_in}
use Rattle.csdl.specs.Verdict.{Answer, verdict, leaves}
use Rattle.csdl.specs.Verdict.Answer.{accepted}
use Rattle.csdl.specs.Verdict.Stage.{whole}
use Rattle.csdl.specs.declared.Holder.{Holder}
use Rattle.csdl.specs.declared.Record.{Record}
use Rattle.csdl.specs.declared.Record.TheVariants.{OfSchema, OfType, OfProperty, OfKey, OfConstraint, OfChild, OfBinding, OfSegment, Nowhere}

-- Where a null came in: at the name whose slot is null or holds it, or at the cast to a type that puts it in a node's place.
pub data Origin : Type 0 where
  at_slot : ℕ → Origin
  at-cast : ℕ → ℕ → Origin

-- What stands at a stage of the walk: null, or an item with its type reference and handle.
pub data Item : Type 0 where
  null : Origin → Item
  value : ℕ → ℕ → Item

-- The slot of a name in a node: 0 for none, else its number plus 1.
unfoldable pub slot_named : Model → Instance → List ℕ → ℕ → ℕ
slot_named m i nm v =
    first_from (λ s. same (property_text m (i.slot_property s)) nm) (i.node_slots v).first (i.node_slots v).count

-- Item k, which stands in slot s.
unfoldable pub item_at : Instance → ℕ → ℕ → Item
item_at i s k = cond (is_null i k) (null (at_slot s)) (value (i.item_ref k) (i.item_handle k))

-- The slot is null.
abbrev pub slot_null : Instance → ℕ → Bool
slot_null i s = eqb (i.state s) 0

-- What stands in a slot: null, the item, or the collection's items in order.
unfoldable pub contents : Instance → ℕ → List Item
contents i s = cond (slot_null i s) (null (at_slot s) ∷ []) (tab (λ k. item_at i s k) (i.slot_items s).first (i.slot_items s).count)

-- The slot that a segment opens at an item, if it is a name and the item a node with a slot of that name: 0 for none, else its number plus 1.
unfoldable pub opening : Model → Instance → Segment → Item → ℕ
opening m i (name nm) (null o) = 0
opening m i (name nm) (value r v) = cond (structured m r) (slot_named m i nm v) 0
opening m i (cast c) x = 0

abbrev pub opened_by : ℕ → List ℕ
opened_by found = if_found [] (λ s. s ∷ []) found

abbrev pub contents_by : Instance → ℕ → List Item
contents_by i found = if_found [] (λ s. contents i s) found

-- What takes an item's place at a segment. A name replaces a node by what stands in its slot of that name; a cast keeps a node at its type,
-- else puts null; null remains null. Nothing takes the place of an item at which the walk stops short.
unfoldable pub after : Model → Instance → Segment → Item → List Item
after m i (name nm) (null o) = null o ∷ []
after m i (name nm) (value r v) = contents_by i (opening m i (name nm) (value r v))
after m i (cast c) (null o) = null o ∷ []
after m i (cast c) (value r v) = cond (structured m r) (cond (ancestor_or_self m c r) (value r v) (null (at-cast c v)) ∷ []) []

-- The walk does not stop short at the item: a name meets null or a node with such a slot, a cast meets null or a node.
unfoldable pub passes : Model → Instance → Segment → Item → Bool
passes m i (name nm) (null o) = true
passes m i (name nm) (value r v) = not (eqb (opening m i (name nm) (value r v)) 0)
passes m i (cast c) (null o) = true
passes m i (cast c) (value r v) = structured m r

-- One segment, at every item of a stage.
abbrev pub next_stage : Model → Instance → Segment → List Item → List Item
next_stage m i g xs = flat (λ x. after m i g x) xs

-- The items at the end of the segments; the slots opened on the way, in order; whether every segment is taken.
unfoldable pub walked : Model → Instance → List Segment → List Item → List Item
walked m i [] xs = xs
walked m i (g ∷ gs) xs = walked m i gs (next_stage m i g xs)

unfoldable pub opened : Model → Instance → List Segment → List Item → List ℕ
opened m i [] xs = []
opened m i (g ∷ gs) xs = flat (λ x. opened_by (opening m i g x)) xs ++ opened m i gs (next_stage m i g xs)

unfoldable pub reaches_end : Model → Instance → List Segment → List Item → Bool
reaches_end m i [] xs = true
reaches_end m i (g ∷ gs) xs = all (λ x. passes m i g x) xs && reaches_end m i gs (next_stage m i g xs)

-- The walk begins with its start node.
abbrev pub start : Instance → ℕ → List Item
start i v = value (i.node_type v) v ∷ []

-- The path of a record: 0 is its path, 1 the principal or target path. The kind, if the record holds such a path.
abbrev pub if_present : Model → PathKind → ℕ → Option Holder
if_present m w r = cond (present (path_of m w r)) (Some (record { kind = w; number = r })) None

unfoldable pub path_chosen : Model → Record → ℕ → Option Holder
path_chosen m (OfSchema s) n = None
path_chosen m (OfType t) n = None
path_chosen m (OfProperty p) n = cond (eqb n 0) (if_present m Partner p) None
path_chosen m (OfKey k) n = cond (eqb n 0) (if_present m Key k) None
path_chosen m (OfConstraint c) n = cond (eqb n 0) (if_present m Dependent c) (cond (eqb n 1) (if_present m Principal c) None)
path_chosen m (OfChild h) n = None
path_chosen m (OfBinding b) n = cond (eqb n 0) (if_present m Binding b) (cond (eqb n 1) (if_present m Target b) None)
path_chosen m (OfSegment g) n = None
path_chosen m Nowhere n = None

-- The path's start type and segments. Without a path there is no start type, and there are no segments.
abbrev pub chosen_start : Model → Option Holder → ℕ
chosen_start m None = no_reference
chosen_start m (Some h) = start_of m h.kind h.number

abbrev pub chosen_segments : Model → Option Holder → List Segment
chosen_segments m None = []
chosen_segments m (Some h) = segments_of m (path_of m h.kind h.number)

-- Rule 27: the record has no such path.
abbrev pub walk27 : Option Holder → Bool
walk27 None = true
walk27 (Some h) = false

-- Rule 28. 28a: the start node is not there. 28b: it is not at the start type.
unfoldable pub walk28 : Model → Instance → ℕ → ℕ → Bool
walk28 m i t v = not (ltb v i.nodes) || not (ancestor_or_self m t (i.node_type v))

-- Rule 29: the result buffer has fewer bytes than an item for the start, each slot and each item take.
abbrev pub walk29_by : ItemForm → Instance → List ℕ → Bool
walk29_by form i buffer = ltb (length buffer) (form.bytes * (1 + i.slots + i.items))

unfoldable pub walk29 : Instance → List ℕ → Bool
walk29 i buffer = walk29_by item_form i buffer

-- The bytes of an item: type reference, then the handle, high byte first; null is 255 with handle 0.
unfoldable pub bytes_of_number : ℕ → ℕ → List ℕ
bytes_of_number zero h = []
bytes_of_number (suc n) h = h / 256 ^ n % 256 ∷ bytes_of_number n h

abbrev pub bytes_of_item_by : ItemForm → Item → List ℕ
bytes_of_item_by form (null o) = 255 ∷ bytes_of_number (handle_bytes form) 0
bytes_of_item_by form (value r h) = r ∷ bytes_of_number (handle_bytes form) h

unfoldable pub bytes_of_item : Item → List ℕ
bytes_of_item x = bytes_of_item_by item_form x

-- The results of a walk and the slots that it opened.
abbrev pub walk_path : List ℕ → ℕ → ℕ → Option Holder
walk_path model place n = path_chosen (model_in model) (record_at (model_in model) place) n

unfoldable pub walk_results : List ℕ → List ℕ → ℕ → ℕ → ℕ → List Item
walk_results model image place n v =
    walked (model_in model) (instance_in image) (chosen_segments (model_in model) (walk_path model place n)) (start (instance_in image) v)

unfoldable pub walk_opened : List ℕ → List ℕ → ℕ → ℕ → ℕ → List ℕ
walk_opened model image place n v =
    opened (model_in model) (instance_in image) (chosen_segments (model_in model) (walk_path model place n)) (start (instance_in image) v)

-- The walk: the refusals of the instance check, then 27 to 29, else how many results there are and how many slots were opened.
unfoldable pub walk_answer : List ℕ → List ℕ → ℕ → ℕ → ℕ → List ℕ → Answer
walk_answer model image place n v buffer =
    let m = model_in model in
    let i = instance_in image in
    let path = walk_path model place n in
    instance_then model image
    (verdict 0 (whole 27 (walk27 path) ∷ whole 28 (walk28 m i (chosen_start m path) v) ∷ whole 29 (walk29 i buffer) ∷ [])
    (accepted (length (walk_results model image place n v) ∷ length (walk_opened model image place n v) ∷ [])))

-- What the walk leaves in the result buffer: the results as items, and the bytes after those as they were.
unfoldable pub result_bytes : List ℕ → List ℕ → ℕ → ℕ → ℕ → List ℕ
result_bytes model image place n v = flat (λ x. bytes_of_item x) (walk_results model image place n v)

unfoldable pub walk_buffer : List ℕ → List ℕ → ℕ → ℕ → ℕ → List ℕ → List ℕ
walk_buffer model image place n v buffer =
    leaves (walk_answer model image place n v buffer) (result_bytes model image place n v) (length (result_bytes model image place n v)) buffer
