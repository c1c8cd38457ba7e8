use Rattle.model_image.specs.Read.{model_read}
use Prim.Native.Nat.{ℕ, ◌*◌}
use mathlib.Core.Path.{◌≡◌, sym, ◌∙◌, ap}
use Rattle.packed.proofs.Laws.{field_lt}
use Rattle.csdl.specs.Search.{any_from}
use Rattle.csdl.specs.Model.{model_of}
use Rattle.csdl.specs.Find.{ancestor}
use Rattle.csdl.specs.Properties.{same_name}
use Rattle.type_hierarchy.specs.Sets.{member}
use Rattle.rules_redeclaration.specs.Clashes.{clashing}
use Rattle.std.proofs.Common.{rules, tests, ◌&&◌}
use Rattle.rules_redeclaration.proofs.Tests.{any_found_of, clash-any, clash-none}
use Rattle.rules_redeclaration.proofs.wrongly_redeclared.Goals as goal

pub returns-then-above-eq0 : goal.returns-then-above-eq0
unfolding model_of ancestor model_read
returns-then-above-eq0 c = let m = model_read c.args.lookup.now.hierarchy.model in
    let all : (q : ℕ) → member c.ancestors_at-above.result (m.owner q) ≡ ancestor m (m.owner q) (m.owner c.args.p) =
    λ q. rw (← c.property_owner.ensures.0) (c.ancestors_at-above.ensures (m.owner q) (field_lt c.args.lookup.now.hierarchy.model.properties.now (56 * q) 6)) in
    sym (clash-none m c.args.p) ∙ ap (λ s. any_from (λ q. clashing m s c.args.p q && same_name m c.args.p q) 0 m.properties) (sym c.if-above-eq0.true) ∙ clash-any m c.ancestors_at-above.result c.args.p all

pub returns : goal.returns
unfolding model_of ancestor model_read
returns c = let m = model_read c.args.lookup.now.hierarchy.model in
    let all : (q : ℕ) → member c.ancestors_at-above.result (m.owner q) ≡ ancestor m (m.owner q) (m.owner c.args.p) =
    λ q. rw (← c.property_owner.ensures.0) (c.ancestors_at-above.ensures (m.owner q) (field_lt c.args.lookup.now.hierarchy.model.properties.now (56 * q) 6)) in
    rw (
      c.is_some.ensures,
      c.first_alike_that.ensures (λ q. clashing m c.ancestors_at-above.result c.args.p q) (λ q b k. search (rules, tests)),
    )
    (any_found_of _ 0 m.properties ∙ clash-any m c.ancestors_at-above.result c.args.p all)
