use mathlib.Core.Path.{sym, ap, ◌∙◌}
use mathlib.Core.Bool.{not}
use Rattle.csdl.specs.Model.{model_of}
use Rattle.csdl.specs.Search.{found}
use Rattle.model_image.specs.Read.{model_read}
use Rattle.type_hierarchy.proofs.Past.{find_past}
use Rattle.lookup.proofs.Found.{means_none, means_one}
use Rattle.lookup.proofs.names.find.Goals as goal

pub returns-then-t-ge64-clause-value : goal.returns-then-t-ge64-clause-value
returns-then-t-ge64-clause-value c = ap found (sym (find_past _ _ _ c.if-t-ge64.true))

pub returns-in_err-first-clause-value : goal.returns-in_err-first-clause-value
returns-in_err-first-clause-value c = c.from_residual.ensures ∙ means_none c.args.lookup.now c.args.name.now c.args.t (sym c.in_err-first.was ∙ c.first_named.ensures.value)

pub returns-then-both_types-clause-value : goal.returns-then-both_types-clause-value
unfolding model_read model_of
returns-then-both_types-clause-value c =
    c.then_some.ensures
    ∙ means_one c.args.lookup.now c.args.name.now c.args.t _ (sym c.in_ok-first.was ∙ c.first_named.ensures.value) _ c.next_alike.ensures (c.is_none.ensures ∙ ap not c.if-is_none.true)
    _ c.property_owner-owner.ensures.0 (sym c.both_types.ensures ∙ c.if-both_types.true) _ c.ancestor_or_self.ensures
