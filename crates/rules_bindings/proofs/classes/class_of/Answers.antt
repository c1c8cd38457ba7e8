use borrow.Author.Tests.{lt-ltb, le-ltb}
use Rattle.rules_bindings.specs.Bindings.{class_of}
use Rattle.rules_bindings.proofs.classes.class_of.Goals as goal

pub returns-then-code-ge512 : goal.returns-then-code-ge512
unfolding class_of
returns-then-code-ge512 c = rw (le-ltb _ _ c.if-code-ge512.true)

pub returns : goal.returns
unfolding class_of
returns c = rw (lt-ltb _ _ c.if-code-ge512.false, c.from.ensures)
