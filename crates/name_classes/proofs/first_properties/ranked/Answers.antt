use Prim.Native.Nat.{ℕ}
use mathlib.Core.Path.{◌≡◌, refl, sym, ◌∙◌}
use mathlib.Core.List.{List}
use native.Mathlib.Numerals.{add-one}
use native.Mathlib.Omega.{arith}
use borrow.Author.Rules.{rules}
use Rattle.std.proofs.lemmas.List.{length-take-le}
use Rattle.csdl.specs.Model.{model_of}
use Rattle.model_image.specs.Read.{model_read}
use Rattle.name_classes.specs.Classes.{name_of}
use Rattle.name_classes.proofs.Filling.{ranked-start, ranked_old, ranked_new, ranked_end}
use Rattle.name_classes.proofs.Options.{found_none, found_some}
use Rattle.name_classes.proofs.Sorting.{sorted_part, stands_part, first_at_part}
use Rattle.name_classes.proofs.Ranks.{whole, low_entries, firsts_count, place-first, entry_first}
use Rattle.name_classes.proofs.first_properties.ranked.Goals as goal
use Rattle.name_classes.proofs.first_properties.ranked.Goals.{in-None, in-Some}

pub loop-p-init : goal.loop-p-init
loop-p-init c = (search rules, ranked-start _ 513)

pub slice_bounds-order-end : goal.slice_bounds-order-end
slice_bounds-order-end c = sym (length-take-le _ _ (whole _ _ _ _ c.loop-p.invariant.1 (omega (arith, c.loop-p.invariant.0))))

pub position-at-requires : goal.position-at-requires
position-at-requires c =
    let name : ℕ → List ℕ = λ q. name_of c.args.model.now.properties.now c.args.model.now.names.now q in
    let w = whole name _ _ _ c.loop-p.invariant.1 (omega (arith, c.loop-p.invariant.0)) in
    (omega (arith, length-take-le _ _ w, c.loop-p.invariant.0, c.loop-p.invariant.1.most), sorted_part name _ _ w c.loop-p.invariant.1.sorted)

pub first_at-requires : goal.first_at-requires
first_at-requires c = low_entries _ _ _ _ c.loop-p.invariant.1 (omega (arith, c.loop-p.invariant.0))

pub insert-requires : goal.insert-requires
insert-requires c = let w = whole _ _ _ _ c.loop-p.invariant.1 (omega (arith, c.loop-p.invariant.0)) in
    (omega (arith, c.position-at.ensures.most, length-take-le _ _ w), omega (arith, c.loop-p.invariant.0, c.loop-p.invariant.1.size, c.loop-p.invariant.1.most))

pub loop-p-preserved : goal.loop-p-preserved
unfolding model_read model_of
loop-p-preserved c =
    let name : ℕ → List ℕ = λ q. name_of c.args.model.now.properties.now c.args.model.now.names.now q in
    let r = c.loop-p.invariant.1 in
    let w = whole name _ _ _ r (omega (arith, c.loop-p.invariant.0)) in
    let s = rw c.property_text-name.ensures at (stands_part name _ _ w _ _ c.position-at.ensures) in (
      c.loop-p.invariant.0,
      elim c.match-first_at.branch [
        | in-None v ↦
            let e = rw c.property_text-name.ensures at (sym (found_none _ (sym v.in-None.is ∙ c.first_at.ensures.value)) ∙ first_at_part name _ _ w _ _) in
            rw (v.index-is, v.firsts-is, v.first-is) (ranked_new name _ _ _ r (omega arith) _ _ e refl s _ v.insert.ensures.inserted)
        | in-Some v ↦
            let e = rw c.property_text-name.ensures at (add-one _ ∙ sym (found_some _ _ (sym v.in-Some.is ∙ c.first_at.ensures.value)) ∙ first_at_part name _ _ w _ _) in
            rw (v.index-is, v.firsts-is, v.first-is) (ranked_old name _ _ _ r (omega arith) _ _ e (λ z. omega (arith, z)))
      ],
    )

pub returns : goal.returns
returns c = let e : c.loop-p.p ≡ (model_read c.args.model.now).properties = omega arith in let k = ranked_end _ _ _ _ (omega arith) (rw e at c.loop-p.invariant.1) in record {
  ranked = k;
  result_value = firsts_count _ _ _ _ k;
  by_index = λ i l. add-one _ ∙ place-first _ _ _ _ k i l;
  by_index_2 = entry_first _ _ _ _ k;
}
