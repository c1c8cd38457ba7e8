-- The walk stage by stage is the walk of each item by itself: the results in the same order, the slots as many. Assumes nothing.
use Prim.Native.Nat.{ℕ, zero, suc, ◌+◌}
use mathlib.Core.Path.{◌≡◌, refl, sym, ap, ap₂, ◌∙◌}
use mathlib.Core.List.{List, [], ◌∷◌, ◌++◌}
use native.Mathlib.Omega.{arith}
use lib.ListN.{length, length-append}
use Rattle.csdl.specs.Search.{tab, flat}
use Rattle.csdl.specs.Model.{Model}
use Rattle.csdl.specs.Path.{Segment}
use Rattle.csdl.specs.Path.Segment.{name, cast}
use Rattle.csdl.specs.Instance.{Instance}
use Rattle.csdl.specs.Walk.{Item, Origin, opening, opened_by, after, next_stage, walked, opened, bytes_of_item}
use Rattle.csdl.specs.Walk.Item.{null, value}
use Rattle.csdl.specs.Walk.Origin.{at_slot}
use Rattle.soundness.proofs.Lists.{flat-one, flat_append}
use Rattle.walk_step.specs.Seen.{item_of, erase, erased}

flat-flat : {A B C : Type 0} (f : B → List C) (g : A → List B) (l : List A) → flat f (flat g l) ≡ flat (λ x. flat f (g x)) l
unfolding flat
flat-flat f g [] = refl
flat-flat f g (x ∷ l) = flat_append f (g x) (flat g l) ∙ ap (λ (r : List _). flat f (g x) ++ r) (flat-flat f g l)

flat-erased : {B : Type 0} (f : Item → List B) → ((x : Item) → f x ≡ f (erase x)) → (l : List Item) → flat f l ≡ flat f (erased l)
unfolding flat erased
flat-erased f h [] = refl
flat-erased f h (x ∷ l) = ap₂ ◌++◌ (h x) (flat-erased f h l)

flat-tab : {A B : Type 0} (f : A → List B) (g : ℕ → A) (k n : ℕ) → flat f (tab g k n) ≡ flat (λ q. f (g q)) (tab (λ q. q) k n)
unfolding flat tab
flat-tab f g k zero = refl
flat-tab f g k (suc n) = ap (λ (l : List _). f (g k) ++ l) (flat-tab f g (k + 1) n)

module _ (m : Model) (i : Instance) where
  -- The results and the bytes of one item.
  abbrev results : List Segment → Item → List Item
  results gs x = walked m i gs (x ∷ [])

  abbrev pub bytes : List Segment → Item → List ℕ
  bytes gs x = flat (λ y. bytes_of_item y) (results gs x)

  abbrev pub opens : List Segment → Item → List ℕ
  opens gs x = opened m i gs (x ∷ [])

  walked-append : (gs : List Segment) (a b : List Item) → walked m i gs (a ++ b) ≡ walked m i gs a ++ walked m i gs b
  unfolding walked
  walked-append [] a b = refl
  walked-append (g ∷ gs) a b =
      ap (walked m i gs) (flat_append (λ x. after m i g x) a b) ∙ walked-append gs (next_stage m i g a) (next_stage m i g b)

  walked_none : (gs : List Segment) → walked m i gs [] ≡ []
  unfolding walked flat
  walked_none [] = refl
  walked_none (g ∷ gs) = walked_none gs

  walked-each : (gs : List Segment) (xs : List Item) → walked m i gs xs ≡ flat (results gs) xs
  unfolding flat
  walked-each gs [] = walked_none gs
  walked-each gs (x ∷ l) = walked-append gs (x ∷ []) l ∙ ap (λ (r : List Item). results gs x ++ r) (walked-each gs l)

  results-more : (g : Segment) (gs : List Segment) (x : Item) → results (g ∷ gs) x ≡ flat (results gs) (after m i g x)
  unfolding walked
  results-more g gs x = ap (walked m i gs) (flat-one (λ y. after m i g y) x) ∙ walked-each gs (after m i g x)

  opened-none : (gs : List Segment) → opened m i gs [] ≡ []
  unfolding opened flat
  opened-none [] = refl
  opened-none (g ∷ gs) = opened-none gs

  count-append : (gs : List Segment) (a b : List Item) → length (opened m i gs (a ++ b)) ≡ length (opened m i gs a) + length (opened m i gs b)
  unfolding opened
  count-append [] a b = refl
  count-append (g ∷ gs) a b =
      let f : Item → List ℕ = λ x. opened_by (opening m i g x) in
      rw (flat_append f a b, flat_append (λ x. after m i g x) a b)
      (omega (
        arith,
        length-append (flat f a ++ flat f b) (opened m i gs (next_stage m i g a ++ next_stage m i g b)),
        length-append (flat f a) (flat f b),
        length-append (flat f a) (opened m i gs (next_stage m i g a)),
        length-append (flat f b) (opened m i gs (next_stage m i g b)),
        count-append gs (next_stage m i g a) (next_stage m i g b),
      ))

  count-each : (gs : List Segment) (xs : List Item) → length (opened m i gs xs) ≡ length (flat (opens gs) xs)
  unfolding flat
  count-each gs [] = ap length (opened-none gs)
  count-each gs (x ∷ l) =
      count-append gs (x ∷ []) l ∙ ap (λ (n : ℕ). length (opens gs x) + n) (count-each gs l) ∙ sym (length-append (opens gs x) (flat (opens gs) l))

  count-more : (g : Segment) (gs : List Segment) (x : Item) →
      length (opens (g ∷ gs) x) ≡ length (opened_by (opening m i g x)) + length (flat (opens gs) (after m i g x))
  unfolding opened
  count-more g gs x =
      let f : Item → List ℕ = λ y. opened_by (opening m i g y) in
      rw (flat-one f x, flat-one (λ y. after m i g y) x)
      (length-append (f x) (opened m i gs (after m i g x)) ∙ ap (λ (n : ℕ). length (f x) + n) (count-each gs (after m i g x)))

  -- Null remains null, and opens nothing.
  results-null : (gs : List Segment) (o : Origin) → results gs (null o) ≡ null o ∷ []
  unfolding walked after
  results-null [] o = refl
  results-null (name nm ∷ gs) o = ap (walked m i gs) (flat-one (λ y. after m i (name nm) y) (null o)) ∙ results-null gs o
  results-null (cast c ∷ gs) o = ap (walked m i gs) (flat-one (λ y. after m i (cast c) y) (null o)) ∙ results-null gs o

  pub opens-null : (gs : List Segment) (o : Origin) → opens gs (null o) ≡ []
  unfolding opened opening after flat
  opens-null [] o = refl
  opens-null (name nm ∷ gs) o = opens-null gs o
  opens-null (cast c ∷ gs) o = opens-null gs o

  -- Where a null came in is not seen.
  pub bytes-null : (gs : List Segment) (o : Origin) → bytes gs (null o) ≡ bytes_of_item (value 255 0)
  unfolding bytes_of_item
  bytes-null gs o = ap (flat (λ y. bytes_of_item y)) (results-null gs o) ∙ flat-one (λ y. bytes_of_item y) (null o)

  bytes-erase : (gs : List Segment) (x : Item) → bytes gs x ≡ bytes gs (erase x)
  unfolding erase
  bytes-erase gs (null o) = bytes-null gs o ∙ sym (bytes-null gs (at_slot 0))
  bytes-erase gs (value r v) = refl

  opens-erase : (gs : List Segment) (x : Item) → opens gs x ≡ opens gs (erase x)
  unfolding erase
  opens-erase gs (null o) = opens-null gs o ∙ sym (opens-null gs (at_slot 0))
  opens-erase gs (value r v) = refl

  -- At the end of the path an item is its own result.
  pub bytes_end : (x : Item) → bytes [] x ≡ bytes_of_item x
  unfolding walked
  bytes_end x = flat-one (λ y. bytes_of_item y) x

  pub opens_end : (x : Item) → opens [] x ≡ []
  unfolding opened
  opens_end x = refl

  -- One segment, where some items take the item's place.
  module _ (g : Segment) (gs : List Segment) (r v : ℕ) (ref handle : ℕ → ℕ) (first count : ℕ)
      (next : erased (after m i g (value r v)) ≡ tab (λ q. item_of (ref q) (handle q)) first count) where
    pub bytes_step : bytes (g ∷ gs) (value r v) ≡ flat (λ q. bytes gs (item_of (ref q) (handle q))) (tab (λ q. q) first count)
    bytes_step =
        ap (flat (λ y. bytes_of_item y)) (results-more g gs (value r v))
        ∙ flat-flat (λ y. bytes_of_item y) (results gs) (after m i g (value r v))
        ∙ flat-erased (bytes gs) (bytes-erase gs) (after m i g (value r v))
        ∙ ap (flat (bytes gs)) next
        ∙ flat-tab (bytes gs) (λ q. item_of (ref q) (handle q)) first count

    pub count_step : length (opens (g ∷ gs) (value r v))
        ≡ length (opened_by (opening m i g (value r v))) + length (flat (λ q. opens gs (item_of (ref q) (handle q))) (tab (λ q. q) first count))
    count_step =
        count-more g gs (value r v)
        ∙ ap (λ (l : List ℕ). length (opened_by (opening m i g (value r v))) + length l)
        (flat-erased (opens gs) (opens-erase gs) (after m i g (value r v))
        ∙ ap (flat (opens gs)) next
        ∙ flat-tab (opens gs) (λ q. item_of (ref q) (handle q)) first count)
