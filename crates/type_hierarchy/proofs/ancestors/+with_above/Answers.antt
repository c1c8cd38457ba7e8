use Rattle.std.proofs.Common.{refl}
use Rattle.type_hierarchy.proofs.AncestorSets.{with_out, with_none, with_up}
use Rattle.type_hierarchy.proofs.ancestors.+with_above.Goals as goal

pub returns-then-left-eq0 : goal.returns-then-left-eq0
returns-then-left-eq0 t c = with_out _ _ _ _ c.if-left-eq0.true

pub returns-then-base-eq0 : goal.returns-then-base-eq0
returns-then-base-eq0 t c = with_none _ _ _ _ refl _ c.if-base-eq0.true

pub returns : goal.returns
returns t c = with_up _ _ _ _ refl _ _ _ c.if-left-eq0.false c.if-base-eq0.false c.with_one.ensures c.with_above.ensures
