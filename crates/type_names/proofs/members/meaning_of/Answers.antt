use Prim.Native.Nat.{ℕ, ◌+◌}
use mathlib.Core.Path.{◌≡◌, refl, ap, ◌∙◌}
use mathlib.Core.List.{List}
use native.Mathlib.Omega.{arith}
use lib.ListN.{get_or}
use Rattle.csdl.specs.Model.{model_of}
use Rattle.csdl.specs.Tables.{type_base, type_count, property_count}
use Rattle.model_image.specs.Read.{model_read}
use Rattle.model_image.proofs.Counting.{all_properties}
use Rattle.type_hierarchy.specs.Near.{left_at, only}
use Rattle.type_hierarchy.proofs.Climbing.{nearness_at}
use Rattle.type_names.proofs.Meanings.{meaning, meant_start, meant_nearer, meant_farther}
use Rattle.type_names.proofs.members.meaning_of.Goals as goal
use Rattle.type_names.proofs.members.meaning_of.Goals.{then-near-h, else-near-h}

pub loop-p-init : goal.loop-p-init
loop-p-init c = meant_start _ _ _ _ _

pub loop-p-preserved : goal.loop-p-preserved
unfolding model_read model_of
loop-p-preserved c =
    let small = c.requires.3 c.loop-p.p (omega arith) in
    let e = ap (λ (x : List ℕ). get_or x c.property_owner.result 0) c.nearness_of-nearness.ensures
    ∙ nearness_at _ _ _ c.property_owner.result (omega (arith, c.property_owner.ensures.1))
    ∙ ap (λ (k : ℕ). left_at (only k) (λ u. type_base c.args.model.now.types.now u) (type_count c.args.model.now.types.now) c.args.t) c.property_owner.ensures.0 in
    elim c.if-near-h.branch [
      | then-near-h w ↦ rw (w.nearest-is, w.near-is) (meant_nearer _ _ _ _ _ _ _ _ c.loop-p.invariant _ refl small _ e w.if-near-h.true)
      | else-near-h w ↦ rw (w.nearest-is, w.near-is) (meant_farther _ _ _ _ _ _ _ _ c.loop-p.invariant (get_or c.args.index.now (512 + c.loop-p.p) 0) refl small _ e w.if-near-h.false)
    ]

pub returns : goal.returns
returns c = let e : c.loop-p.p ≡ property_count c.args.model.now.properties.now = omega (arith, all_properties c.args.model.now c.requires.0) in meaning _ _ _ _ _ _ (rw e at c.loop-p.invariant)
