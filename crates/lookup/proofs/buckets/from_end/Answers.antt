use borrow.Author.Tests.{le-leb, lt-leb}
use borrow.Author.Rules.{rules}
use Rattle.lookup.proofs.buckets.from_end.Goals as goal

pub returns-then-s-k : goal.returns-then-s-k
returns-then-s-k c = rw (le-leb _ _ c.if-s-k.true) (search rules)

pub returns : goal.returns
returns c = rw (lt-leb _ _ c.if-s-k.false) c.byte_at.ensures
