use Rattle.name_classes.proofs.Before.{before_out, before_end, before_at}
use Rattle.name_classes.proofs.order.comes_before.Goals as goal

pub returns-then-b-i : goal.returns-then-b-i
returns-then-b-i c = before_out _ _ _ c.common_start-i.ensures c.if-b-i.true

pub returns-then-a-i : goal.returns-then-a-i
returns-then-a-i c = before_end _ _ _ c.common_start-i.ensures c.if-b-i.false c.if-a-i.true

pub returns : goal.returns
returns c = before_at _ _ _ c.common_start-i.ensures c.if-b-i.false c.if-a-i.false
