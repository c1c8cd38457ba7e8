use mathlib.Core.Path.{◌∙◌}
use Rattle.name_classes.proofs.Filling.{at_within, at_past}
use Rattle.name_classes.proofs.first_properties.first_at.Goals as goal

pub returns-in_err-p-clause-value : goal.returns-in_err-p-clause-value
returns-in_err-p-clause-value c = c.from_residual.ensures ∙ at_past _ _ _ _ c.in_err-p.ensures.lookup.3

pub returns-clause-value : goal.returns-clause-value
returns-clause-value c = let h = c.in_ok-p.ensures.lookup.3 in c.then_some.ensures ∙ at_within _ _ _ _ _ _ h.0 (h.1 0) c.has_name.ensures
