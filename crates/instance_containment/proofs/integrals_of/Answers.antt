use Rattle.std.proofs.Common.{◌≡◌, ℕ, Bool, refl, sym, ◌∙◌, rules, arith}
use Rattle.csdl.specs.Find.{integral}
use Rattle.model_image.specs.Read.{model_read}
use Rattle.type_names.proofs.WideLaws.{wide-none, below_with, below_without, below_none}
use Rattle.instance_containment.proofs.integrals_of.Goals as goal
use Rattle.instance_containment.proofs.integrals_of.Goals.{then-integral, else-integral}

pub loop-p-init : goal.loop-p-init
loop-p-init c = (search rules, λ q h. wide-none q h ∙ sym (below_none (λ k. integral (model_read c.args.model.now) k) 0 q refl))

pub loop-p-preserved : goal.loop-p-preserved
loop-p-preserved c =
    let test : ℕ → Bool = (λ q. integral (model_read c.args.model.now) q) in
    elim c.if-integral.branch [
      | then-integral w ↦ rw w.set-is (w.with_wide-next.ensures.0, λ q h. w.with_wide-next.ensures.1 q h ∙ rw (c.loop-p.invariant.1 q h) (below_with test c.loop-p.p q (sym c.integral.ensures ∙ w.if-integral.true)))
      | else-integral w ↦ rw w.set-is (c.loop-p.invariant.0, λ q h. c.loop-p.invariant.1 q h ∙ below_without test c.loop-p.p q (sym c.integral.ensures ∙ w.if-integral.false))
    ]

pub returns : goal.returns
returns c =
    let e : c.loop-p.p ≡ (model_read c.args.model.now).properties = omega (arith, c.property_count-p-end.ensures) in
    record { size = c.loop-p.invariant.0; is = λ q h. rw e at (c.loop-p.invariant.1 q h) }
