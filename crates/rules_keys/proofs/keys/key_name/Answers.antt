use borrow.Author.Tests.{eq-eqb, ne_eqb}
use Rattle.rules_keys.specs.Keys.{coded_name}
use Rattle.rules_keys.proofs.keys.key_name.Goals as goal

pub returns-then-key_alias-ne0 : goal.returns-then-key_alias-ne0
unfolding coded_name
returns-then-key_alias-ne0 c = rw (← c.key_alias.ensures.1, ne_eqb _ _ c.if-key_alias-ne0.true) (rw (← c.key_alias.ensures.1) at c.key_alias_text.ensures)

pub returns-then-path-code : goal.returns-then-path-code
unfolding coded_name
returns-then-path-code c = rw (← c.key_alias.ensures.1, eq-eqb _ _ c.if-key_alias-ne0.false, ← c.key_path-path.ensures.1, ← c.key_path-path.ensures.0, ← c.code_at-code.ensures, c.if-path-code.true)

pub returns : goal.returns
unfolding coded_name
returns c = rw (← c.key_alias.ensures.1, eq-eqb _ _ c.if-key_alias-ne0.false, ← c.key_path-path.ensures.1, ← c.key_path-path.ensures.0, ← c.code_at-code.ensures, c.if-path-code.false) c.property_text.ensures
