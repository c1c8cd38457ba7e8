use Prim.Native.Nat.{ℕ}
use mathlib.Core.Path.{◌≡◌, refl, sym, ◌∙◌}
use mathlib.Core.Bool.{Bool, true, false}
use native.Mathlib.Numerals.{add-one}
use native.Mathlib.Omega.{arith}
use borrow.Author.Rules.{rules}
use borrow.Author.Tests.{eq-eqb, ne_eqb}
use Rattle.csdl.specs.Find.{is_name_of}
use Rattle.csdl.specs.Model.{model_of}
use Rattle.model_image.specs.Read.{model_read}
use Rattle.model_image.proofs.Counting.{most_properties}
use Rattle.name_classes.proofs.Ranks.{entry_low}
use Rattle.type_names.proofs.WideLaws.{wide-none, below_with, below_without, below_none}
use Rattle.type_names.proofs.Meanings.{name_meant}
use Rattle.type_names.proofs.members.names_of.Goals as goal
use Rattle.type_names.proofs.members.names_of.Goals.{then-nearest-index, else-nearest-index}

pub meaning_of-nearest-requires : goal.meaning_of-nearest-requires
unfolding model_read model_of
meaning_of-nearest-requires c = (c.requires.0, c.requires.1, c.requires.2.size, entry_low _ _ _ _ c.requires.2 (most_properties c.args.model.now))

pub loop-p-init : goal.loop-p-init
loop-p-init c = (search rules, λ q h. wide-none q h ∙ sym (below_none (λ k. is_name_of (model_read c.args.model.now) c.args.t k) 0 q refl))

pub bounds-nearest-index : goal.bounds-nearest-index
unfolding model_read model_of
bounds-nearest-index c = omega (arith, entry_low _ _ _ _ c.requires.2 (most_properties c.args.model.now) c.loop-p.p (omega arith), c.meaning_of-nearest.ensures.size)

pub loop-p-preserved : goal.loop-p-preserved
unfolding model_read model_of
loop-p-preserved c =
    let test : ℕ → Bool = (λ q. is_name_of (model_read c.args.model.now) c.args.t q) in
    let e = name_meant c.args.model.now c.args.index.now c.args.t c.requires.0 c.requires.2 c.loop-p.p (omega arith) c.meaning_of-nearest.result c.meaning_of-nearest.ensures in
    elim c.if-nearest-index.branch [
      | then-nearest-index w ↦ (
          let t : test c.loop-p.p ≡ true = sym e ∙ eq-eqb _ _ (w.if-nearest-index.true ∙ add-one c.loop-p.p) in
          rw w.set-is (w.with_wide-next.ensures.0, λ q h. w.with_wide-next.ensures.1 q h ∙ rw (c.loop-p.invariant.1 q h) (below_with test c.loop-p.p q t)))
      | else-nearest-index w ↦ (
          let t : test c.loop-p.p ≡ false = sym e ∙ ne_eqb _ _ (λ y. w.if-nearest-index.false (y ∙ sym (add-one c.loop-p.p))) in
          rw w.set-is (c.loop-p.invariant.0, λ q h. c.loop-p.invariant.1 q h ∙ below_without test c.loop-p.p q t))
    ]

pub returns : goal.returns
unfolding model_read model_of
returns c = let e : c.loop-p.p ≡ (model_read c.args.model.now).properties = omega arith in (c.loop-p.invariant.0, λ q h. rw e at (c.loop-p.invariant.1 q h))
