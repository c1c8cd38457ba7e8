use mathlib.Core.Logic.{inl, inr}
use borrow.Author.Rules.{rules}
use Rattle.type_hierarchy.proofs.Climbing.{Entered, entered, climbed_out, climbed_end, climbed_on}
use Rattle.type_hierarchy.proofs.nearness.+climb.Goals as goal
use Rattle.type_hierarchy.proofs.nearness.+climb.Goals.{then-nearness-t-eq0, else-nearness-t-eq0}

pub returns-then-left-eq0 : goal.returns-then-left-eq0
returns-then-left-eq0 t c = climbed_out _ _ _ _ (search rules) c.if-left-eq0.true

pub returns-in_default : goal.returns-in_default
returns-in_default t c =
    let m : Entered c.args.t c.args.left c.args.nearness.now c.if-nearness-t-eq0.nearness = elim c.if-nearness-t-eq0.branch [
      | then-nearness-t-eq0 w ↦ entered _ _ _ (search rules) {A = Unit {0}} {B = ⊥} _ c.requires (inl tt) (λ x. (w.nearness-is, w.if-nearness-t-eq0.true)) (λ x. absurd x)
      | else-nearness-t-eq0 w ↦ entered _ _ _ (search rules) {A = ⊥} {B = Unit {0}} _ c.requires (inr tt) (λ x. absurd x) (λ x. (w.nearness-is, w.if-nearness-t-eq0.false))
    ] in
    climbed_end _ _ _ _ _ m c.if-left-eq0.false (rw c.in_default.is at c.base_type.ensures.value)

pub returns-in-Some : goal.returns-in-Some
returns-in-Some t c =
    let m : Entered c.args.t c.args.left c.args.nearness.now c.if-nearness-t-eq0.nearness = elim c.if-nearness-t-eq0.branch [
      | then-nearness-t-eq0 w ↦ entered _ _ _ (search rules) {A = Unit {0}} {B = ⊥} _ c.requires (inl tt) (λ x. (w.nearness-is, w.if-nearness-t-eq0.true)) (λ x. absurd x)
      | else-nearness-t-eq0 w ↦ entered _ _ _ (search rules) {A = ⊥} {B = Unit {0}} _ c.requires (inr tt) (λ x. absurd x) (λ x. (w.nearness-is, w.if-nearness-t-eq0.false))
    ] in
    climbed_on _ _ _ _ _ m c.if-left-eq0.false _ c.in-Some.ensures.value _ c.climb.ensures
