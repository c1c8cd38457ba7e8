use borrow.Author.Tests.{ne_eqb}
use Rattle.std.proofs.Common.{sym}
use Rattle.name_classes.specs.Order.{before}
use Rattle.name_classes.proofs.Before.{equal_head, other_head}
use Rattle.enumeration_members.proofs.names.earlier_before.Goals as goal

pub returns-then-s-t : goal.returns-then-s-t
unfolding before
returns-then-s-t c = rw (← c.member_type-s.ensures.0) (sym (other_head c.member_type-s.result c.args.t _ (ne_eqb _ _ c.if-s-t.true)))

pub returns : goal.returns
unfolding before
returns c = rw (← c.member_type-s.ensures.0, ← c.text.ensures, ← c.comes_before.ensures)
    (sym (equal_head c.member_type-s.result c.args.t _ c.if-s-t.false))
