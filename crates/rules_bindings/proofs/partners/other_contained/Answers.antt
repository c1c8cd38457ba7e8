use Prim.Native.Nat.{◌<◌}
use mathlib.Core.Path.{◌≡◌, sym, ◌∙◌}
use mathlib.Core.Bool.{true, false}
use borrow.Author.Tests.{lt-ltb, le-ltb}
use Rattle.csdl.specs.Find.{ancestor_or_self}
use Rattle.model_image.specs.Read.{model_read}
use Rattle.rules_bindings.specs.Partners.{other_contains}
use Rattle.rules_bindings.proofs.partners.other_contained.Goals as goal

pub returns-then-not-other_with_partner : goal.returns-then-not-other_with_partner
unfolding other_contains
returns-then-not-other_with_partner c = rw (← c.other_with_partner.ensures, c.if-not-other_with_partner.true)

pub returns-then-not-in_set : goal.returns-then-not-in_set
unfolding other_contains
returns-then-not-in_set c = let m = model_read c.args.model.now in
    let owner : m.owner c.args.q < 64 = rw c.property_owner.ensures.0 at c.property_owner.ensures.1 in
    let e : ancestor_or_self m (m.owner c.args.q) (m.owner c.args.p) ≡ false =
    sym (c.requires (m.owner c.args.q) owner) ∙ rw (← c.property_owner.ensures.0) (sym c.in_set.ensures ∙ c.if-not-in_set.true) in
    rw (← c.other_with_partner.ensures, c.if-not-other_with_partner.false, e)

pub returns-then-code-ge32768 : goal.returns-then-code-ge32768
unfolding other_contains
returns-then-code-ge32768 c = let m = model_read c.args.model.now in
    let owner : m.owner c.args.q < 64 = rw c.property_owner.ensures.0 at c.property_owner.ensures.1 in
    let e : ancestor_or_self m (m.owner c.args.q) (m.owner c.args.p) ≡ true =
    sym (c.requires (m.owner c.args.q) owner) ∙ rw (← c.property_owner.ensures.0) (sym c.in_set.ensures ∙ c.if-not-in_set.false) in
    rw (← c.other_with_partner.ensures, c.if-not-other_with_partner.false, e, ← c.partner_code-code.ensures, le-ltb _ _ c.if-code-ge32768.true)

pub returns : goal.returns
unfolding other_contains
returns c = let m = model_read c.args.model.now in
    let owner : m.owner c.args.q < 64 = rw c.property_owner.ensures.0 at c.property_owner.ensures.1 in
    let e : ancestor_or_self m (m.owner c.args.q) (m.owner c.args.p) ≡ true =
    sym (c.requires (m.owner c.args.q) owner) ∙ rw (← c.property_owner.ensures.0) (sym c.in_set.ensures ∙ c.if-not-in_set.false) in
    rw (← c.other_with_partner.ensures, c.if-not-other_with_partner.false, e, ← c.partner_code-code.ensures, lt-ltb _ _ c.if-code-ge32768.false)
    c.property_contains.ensures
