use Prim.Native.Nat.{ℕ}
use mathlib.Core.Path.{refl, sym, ap, ◌∙◌}
use mathlib.Core.List.{List}
use native.Mathlib.Omega.{arith}
use Rattle.csdl.specs.Search.{found}
use Rattle.std.proofs.lemmas.List.{length-take-le}
use Rattle.name_classes.specs.Classes.{name_of}
use Rattle.name_classes.proofs.Sorting.{sorted_part, stands_part, first_at_part}
use Rattle.model_image.proofs.Counting.{most_properties}
use Rattle.name_classes.proofs.Ranks.{whole, low_entries, search_first}
use Rattle.name_classes.proofs.first_properties.first_of.Goals as goal

pub slice_bounds-order-end : goal.slice_bounds-order-end
slice_bounds-order-end c = sym (length-take-le _ _ (whole _ _ _ _ c.requires (most_properties c.args.model.now)))

pub position-requires : goal.position-requires
position-requires c =
    let name : ℕ → List ℕ = λ p. name_of c.args.model.now.properties.now c.args.model.now.names.now p in
    let w = whole name _ _ _ c.requires (most_properties c.args.model.now) in
    (omega (arith, length-take-le _ _ w, c.requires.most, most_properties c.args.model.now), sorted_part name _ _ w c.requires.sorted)

pub first_at-requires : goal.first_at-requires
first_at-requires c = low_entries _ _ _ _ c.requires (most_properties c.args.model.now)

pub returns-clause-value : goal.returns-clause-value
returns-clause-value c = let w = whole _ _ _ _ c.requires (most_properties c.args.model.now) in
    c.first_at.ensures.value ∙ ap found (first_at_part _ _ _ w _ _ ∙ search_first _ _ _ _ c.requires _ _ _ (stands_part _ _ _ w _ _ c.position.ensures) refl)
