use mathlib.Core.Path.{sym, ◌∙◌}
use Rattle.rules_keys.specs.Constraints.{constraint_fails, constraint_end, constraint_coded}
use Rattle.rules_keys.proofs.Orders.{kept_end, refused_end}
use Rattle.rules_keys.proofs.constraints.constraint_16.Goals as goal

pub returns-in_default : goal.returns-in_default
unfolding constraint_coded constraint_fails
returns-in_default c =
    rw (← c.constraint_dependent.ensures.0, ← c.constraint_dependent.ensures.1, refused_end _ _ (sym c.constraint_end.ensures ∙ c.in_default.is))

pub returns-in_default-constraint_end : goal.returns-in_default-constraint_end
unfolding constraint_coded constraint_fails
returns-in_default-constraint_end c =
    rw (
      ← c.constraint_dependent.ensures.0,
      ← c.constraint_dependent.ensures.1,
      ← c.constraint_principal.ensures.0,
      ← c.constraint_principal.ensures.1,
      (kept_end _ _ _ (sym c.constraint_end.ensures ∙ c.in-Some.is)).0,
      refused_end _ _ (sym c.constraint_end-2.ensures ∙ c.in_default-constraint_end.is),
    )

pub returns : goal.returns
unfolding constraint_coded constraint_fails constraint_end
returns c =
    let d = kept_end _ _ _ (sym c.constraint_end.ensures ∙ c.in-Some.is) in
    let r = kept_end _ _ _ (sym c.constraint_end-2.ensures ∙ c.in-Some-constraint_end.is) in
    rw (
      ← c.constraint_dependent.ensures.0,
      ← c.constraint_dependent.ensures.1,
      ← c.constraint_principal.ensures.0,
      ← c.constraint_principal.ensures.1,
      ← c.constraint_property.ensures.0,
      d.0,
      r.0,
      d.1,
      r.1,
    ) c.constraint_ends.ensures
