-- Where the nulls among the results came in: of any walk.
use Prim.Native.Nat.{ℕ, zero, suc}
use mathlib.Core.Path.{◌≡◌, refl, sym, ap, ◌∙◌, subst}
use mathlib.Core.List.Memᴰ
use mathlib.Core.List.{List, [], ◌∷◌, ◌++◌, append_assoc, Memᴰ}
use mathlib.Core.Bool.{Bool, true, false, cond}
use lib.Dec.{eqb}
use Rattle.csdl.specs.Search.{flat, tab}
use Rattle.csdl.specs.Model.{Model}
use Rattle.csdl.specs.Find.{structured, ancestor_or_self}
use Rattle.csdl.specs.Path.{Segment}
use Rattle.csdl.specs.Path.Segment.{name, cast}
use Rattle.csdl.specs.Instance.{Instance}
use Rattle.csdl.specs.Conforms.{is_null}
use Rattle.csdl.specs.Walk.{Item, Origin, slot_named, item_at, contents, contents_by, opening, opened_by, after, next_stage, walked, opened}
use Rattle.csdl.specs.Walk.Item.{null, value}
use Rattle.csdl.specs.Walk.Origin.{at_slot, at-cast}
use Rattle.soundness.specs.Lists.{All}
use Rattle.soundness.specs.Lists.All.{none, both}
use Rattle.soundness.proofs.Lists.{all_append, all-tab}

-- The cast is one of the path's, and the node was met by it: it stood among the items before the cast, and is not at the cast's type.
pub record CastMet (m : Model) (i : Instance) (path : List Segment) (begin : List Item) (c v : ℕ) : Type 0 where
  pub before : List Segment
  pub later : List Segment
  pub path-is : path ≡ before ++ (cast c ∷ later)
  pub type : ℕ
  pub met : Memᴰ (value type v) (walked m i before begin)
  pub is-structured : structured m type ≡ true
  pub not_at : ancestor_or_self m c type ≡ false

-- The slot was opened by a name of the path, in a node among the items before it.
pub record SlotMet (m : Model) (i : Instance) (path : List Segment) (begin : List Item) (slots : List ℕ) (s : ℕ) : Type 0 where
  pub before : List Segment
  pub named : List ℕ
  pub later : List Segment
  pub path-is : path ≡ before ++ (name named ∷ later)
  pub type : ℕ
  pub node : ℕ
  pub met : Memᴰ (value type node) (walked m i before begin)
  pub opens : opening m i (name named) (value type node) ≡ suc s
  pub listed : Memᴰ s slots

unfoldable pub InWalk : Model → Instance → List Segment → List Item → List ℕ → Origin → Type 0
InWalk m i path begin slots (at_slot s) = SlotMet m i path begin slots s
InWalk m i path begin slots (at-cast c v) = CastMet m i path begin c v

-- If the item is null, it came in there.
unfoldable pub CameIn : Model → Instance → List Segment → List Item → List ℕ → Item → Type 0
CameIn m i path begin slots (null o) = InWalk m i path begin slots o
CameIn m i path begin slots (value r v) = Unit {0}

-- What stands in a list stands in the whole.
abbrev Among : {A : Type 0} → List A → List A → Type 0
Among {A} a whole = (x : A) → Memᴰ x a → Memᴰ x whole

walked-append : (m : Model) (i : Instance) (a b : List Segment) (xs : List Item) → walked m i (a ++ b) xs ≡ walked m i b (walked m i a xs)
unfolding walked
walked-append m i [] b xs = refl
walked-append m i (g ∷ a) b xs = walked-append m i a b (next_stage m i g xs)

-- The path is the whole path, from the items at its begin, and slots are all that the walk opens.
module _ (m : Model) (i : Instance) (path : List Segment) (begin : List Item) (slots : List ℕ) where
  abbrev Came : Item → Type 0
  Came x = CameIn m i path begin slots x

  from_slot : (s : ℕ) → SlotMet m i path begin slots s → All Came (contents i s)
  unfolding contents item_at CameIn InWalk
  from_slot s h = go (eqb (i.state s) 0)
    where
      item : (b : Bool) (r w : ℕ) → Came (cond b (null (at_slot s)) (value r w))
      item true r w = h
      item false r w = tt

      go : (b : Bool) → All Came (cond b (null (at_slot s) ∷ []) (tab (λ n. item_at i s n) (i.slot_items s).first (i.slot_items s).count))
      go true = both {x = null (at_slot s)} h none
      go false = all-tab Came (λ n. item_at i s n) (i.slot_items s).first (i.slot_items s).count
          (λ n a b. item (is_null i n) (i.item_ref n) (i.item_handle n))

  -- The segment g, where the segments before it are taken and later follow; x is one of the items there.
  module _ (g : Segment) (before later : List Segment) (whole : path ≡ before ++ (g ∷ later)) where
    from_after : (x : Item) → Memᴰ x (walked m i before begin) → Among (opened_by (opening m i g x)) slots → Came x → All Came (after m i g x)
    unfolding after opening CameIn InWalk
    from_after = by g whole
      where
        by : (g : Segment) → path ≡ before ++ (g ∷ later) → (x : Item) → Memᴰ x (walked m i before begin) →
            Among (opened_by (opening m i g x)) slots → Came x → All Came (after m i g x)
        by (name nm) e (null o) d sub h = both {x = null o} h none
        by (name nm) e (value r v) d sub h = go (cond (structured m r) (slot_named m i nm v) 0) refl sub
          where
            go : (z : ℕ) → cond (structured m r) (slot_named m i nm v) 0 ≡ z → Among (opened_by z) slots → All Came (contents_by i z)
            go zero o inside = none
            go (suc s) o inside =
                from_slot s record {
                  before = before;
                  named = nm;
                  later = later;
                  path-is = e;
                  type = r;
                  node = v;
                  met = d;
                  opens = o;
                  listed = inside s (Memᴰ.head refl);
                }
        by (cast c) e (null o) d sub h = both {x = null o} h none
        by (cast c) e (value r v) d sub h = go (structured m r) refl (ancestor_or_self m c r) refl
          where
            go : (a : Bool) → structured m r ≡ a → (b : Bool) → ancestor_or_self m c r ≡ b → All Came (cond a (cond b (value r v) (null (at-cast c v)) ∷ []) [])
            go true p true q = both {x = value r v} tt none
            go true p false q =
                both {x = null (at-cast c v)} record { before = before; later = later; path-is = e; type = r; met = d; is-structured = p; not_at = q } none
            go false p b q = none

    from_stage : {xs : List Item} → Among xs (walked m i before begin) → Among (flat (λ x. opened_by (opening m i g x)) xs) slots →
        All Came xs → All Came (next_stage m i g xs)
    unfolding flat
    from_stage d sub none = none
    from_stage d sub (both {x} {l} p h) =
        all_append
        (from_after x (d x (Memᴰ.head refl)) (λ s e. sub s (Memᴰ.append_left (flat (λ y. opened_by (opening m i g y)) l) e)) p)
        (from_stage (λ y e. d y (Memᴰ.tail e)) (λ s e. sub s (Memᴰ.append_right (opened_by (opening m i g x)) e)) h)

  came : (before gs : List Segment) → path ≡ before ++ gs → (xs : List Item) → xs ≡ walked m i before begin → Among (opened m i gs xs) slots →
      All Came xs → All Came (walked m i gs xs)
  unfolding walked opened
  came before [] e xs q sub h = h
  came before (g ∷ gs) e xs q sub h =
      let l = flat (λ x. opened_by (opening m i g x)) xs in
      came (before ++ (g ∷ [])) gs (e ∙ sym (append_assoc before (g ∷ []) gs)) (next_stage m i g xs)
      (ap (next_stage m i g) q ∙ sym (walked-append m i before (g ∷ []) begin)) (λ s d. sub s (Memᴰ.append_right l d))
      (from_stage g before gs e (λ x d. subst (Memᴰ x) q d) (λ s d. sub s (Memᴰ.append_left (opened m i gs (next_stage m i g xs)) d)) h)

pub came_in : (m : Model) (i : Instance) (gs : List Segment) (r v : ℕ) →
    All (CameIn m i gs (value r v ∷ []) (opened m i gs (value r v ∷ []))) (walked m i gs (value r v ∷ []))
unfolding CameIn walked
came_in m i gs r v =
    let begin = value r v ∷ [] in
    came m i gs begin (opened m i gs begin) [] gs refl begin refl (λ s e. e) (both {x = value r v} tt none)
