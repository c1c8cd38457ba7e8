-- The walk of a node's own item is the walk from the node. Assumes nothing.
use Prim.Native.Nat.{ℕ, ◌<◌}
use mathlib.Core.Path.{◌≡◌, ap}
use mathlib.Core.List.{[], ◌∷◌}
use native.Mathlib.Omega.{arith}
use borrow.Author.Tests.{ne_eqb}
use Rattle.csdl.specs.declared.Run.{Run}
use Rattle.csdl.specs.Search.{flat}
use Rattle.csdl.specs.Model.{Model}
use Rattle.csdl.specs.Instance.{Instance}
use Rattle.csdl.specs.Walk.{Item, walked, opened, bytes_of_item}
use Rattle.csdl.specs.Walk.Item.{value}
use Rattle.walk_step.specs.Seen.{item_of, path_from, written, openings}
use Rattle.walk.specs.Along.{bytes_along, opened_along}

module _ (m : Model) (i : Instance) (run : Run) (v t : ℕ) (own : t ≡ i.node_type v) (few : t < 64) where
  -- It is not null.
  own-item : item_of t v ≡ value (i.node_type v) v
  unfolding item_of
  own-item = rw (ne_eqb t 255 (λ e. omega (arith, few, e))) (ap (λ (r : ℕ). value r v) own)

  pub written_is : written m i run.first run.count t v ≡ bytes_along m i run v
  unfolding written bytes_along path_from
  written_is = ap (λ (x : Item). flat (λ y. bytes_of_item y) (walked m i (path_from m run.first run.count) (x ∷ []))) own-item

  pub openings-is : openings m i run.first run.count t v ≡ opened_along m i run v
  unfolding openings opened_along path_from
  openings-is = ap (λ (x : Item). opened m i (path_from m run.first run.count) (x ∷ [])) own-item
