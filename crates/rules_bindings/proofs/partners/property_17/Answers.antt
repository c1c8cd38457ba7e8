use mathlib.Core.Path.{ap₂}
use mathlib.Core.Bool.{◌||◌}
use borrow.Author.Tests.{eq-eqb, ne_eqb}
use Rattle.csdl.specs.Path.{path_of}
use Rattle.rules_bindings.specs.Partners.{partner_last, partner_coded}
use Rattle.rules_bindings.proofs.partners.property_17.Goals as goal

pub returns-then-path-eq0 : goal.returns-then-path-eq0
unfolding partner_coded
returns-then-path-eq0 c = rw (← c.property_partner-path.ensures.1, eq-eqb _ _ c.if-path-eq0.true)

pub returns : goal.returns
unfolding path_of partner_last partner_coded
returns c = rw (← c.property_partner-path.ensures.0, ← c.property_partner-path.ensures.1, ne_eqb _ _ c.if-path-eq0.false, ← c.run_of-run.ensures, ← c.last_code.ensures, ← c.number_of-q.ensures) (ap₂ ◌||◌ c.partner_codes.ensures c.partner_ends.ensures)
