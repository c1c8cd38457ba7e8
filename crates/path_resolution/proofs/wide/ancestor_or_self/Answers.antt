use mathlib.Core.Path.{sym}
use borrow.Author.Tests.{eq-eqb}
use Rattle.csdl.specs.Find.{ancestor_or_self}
use Rattle.type_hierarchy.proofs.Past.{ancestor-or_self_past, ancestor-or_self_high}
use Rattle.path_resolution.proofs.wide.ancestor_or_self.Goals as goal

pub returns-then-t-a : goal.returns-then-t-a
unfolding ancestor_or_self
returns-then-t-a c = rw (eq-eqb _ _ c.if-t-a.true)

pub returns-then-t-ge64 : goal.returns-then-t-ge64
returns-then-t-ge64 c = sym (ancestor-or_self_past _ _ _ c.if-t-a.false c.if-t-ge64.true)

pub returns-then-a-ge128 : goal.returns-then-a-ge128
returns-then-a-ge128 c = sym (ancestor-or_self_high _ _ _ c.if-t-a.false c.if-a-ge128.true)
