-- The slots opened below one item, depth first: the same as those that the walk opens stage by stage, in another order.
use Prim.Native.Nat.{ℕ, ◌+◌}
use mathlib.Core.Path.{◌≡◌, refl, sym, ap, ◌∙◌}
use mathlib.Core.List.{List, [], ◌∷◌, ◌++◌}
use mathlib.Core.Bool.{false, false≢true}
use native.Mathlib.Omega.{arith}
use Rattle.csdl.specs.Search.{flat}
use Rattle.csdl.specs.Model.{Model}
use Rattle.csdl.specs.Path.{Segment}
use Rattle.csdl.specs.Path.Segment.{name, cast}
use Rattle.csdl.specs.Instance.{Instance}
use Rattle.csdl.specs.Walk.{Item, Origin, opening, opened_by, after, next_stage, opened}
use Rattle.csdl.specs.Walk.Item.{null}
use Rattle.soundness.proofs.Lists.{sum, sum_append, Alike, flat-one, flat-none, flat_append}
use Rattle.soundness.proofs.Ways.{has_name}

unfoldable pub below : Model → Instance → List Segment → Item → List ℕ
below m i [] x = []
below m i (g ∷ gs) x = opened_by (opening m i g x) ++ flat (below m i gs) (after m i g x)

module _ (m : Model) (i : Instance) where
  none_below : (f : ℕ → ℕ) (xs : List Item) → 0 ≡ sum f (flat (below m i []) xs)
  unfolding flat below sum
  none_below f [] = refl
  none_below f (x ∷ l) = none_below f l

  split : (f : ℕ → ℕ) (g : Segment) (gs : List Segment) (xs : List Item) →
      sum f (flat (λ x. opened_by (opening m i g x)) xs) + sum f (flat (below m i gs) (next_stage m i g xs)) ≡ sum f (flat (below m i (g ∷ gs)) xs)
  unfolding flat below sum
  split f g gs [] = refl
  split f g gs (x ∷ l) =
      let a = opened_by (opening m i g x) in
      let b = flat (λ y. opened_by (opening m i g y)) l in
      let c = flat (below m i gs) (after m i g x) in
      let d = flat (below m i gs) (next_stage m i g l) in
      let e = flat (below m i (g ∷ gs)) l in
      rw (flat_append (below m i gs) (after m i g x) (next_stage m i g l))
      (omega (arith, sum_append f a b, sum_append f c d, sum_append f (a ++ c) e, sum_append f a c, split f g gs l))

  pub stage_by_stage : (gs : List Segment) (xs : List Item) → Alike (opened m i gs xs) (flat (below m i gs) xs)
  unfolding opened sum
  stage_by_stage [] xs f = none_below f xs
  stage_by_stage (g ∷ gs) xs f =
      let l = flat (λ x. opened_by (opening m i g x)) xs in
      sum_append f l (opened m i gs (next_stage m i g xs)) ∙ ap (λ (n : ℕ). sum f l + n) (stage_by_stage gs (next_stage m i g xs) f) ∙ split f g gs xs

  pub of_one : (gs : List Segment) (x : Item) → Alike (below m i gs x) (opened m i gs (x ∷ []))
  of_one gs x f = sym (stage_by_stage gs (x ∷ []) f ∙ ap (sum f) (flat-one (below m i gs) x))

  -- Below null nothing is opened.
  pub below-null : (gs : List Segment) (o : Origin) → below m i gs (null o) ≡ []
  unfolding below opening after
  below-null [] o = refl
  below-null (name nm ∷ gs) o = flat-one (below m i gs) (null o) ∙ below-null gs o
  below-null (cast c ∷ gs) o = flat-one (below m i gs) (null o) ∙ below-null gs o

  -- With no name left nothing is opened.
  pub below_none : (gs : List Segment) → has_name gs ≡ false → (x : Item) → below m i gs x ≡ []
  unfolding below opening has_name
  below_none [] e x = refl
  below_none (name nm ∷ gs) e x = absurd (false≢true (sym e))
  below_none (cast c ∷ gs) e x = flat-none (below m i gs) (below_none gs e) (after m i (cast c) x)
