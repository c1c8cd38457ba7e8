use borrow.Author.Tests.{eq-eqb, ne_eqb}
use Rattle.rules_bindings.specs.Bindings.{binding_fingerprint}
use Rattle.rules_bindings.proofs.bindings.binding_fingerprint.Goals.{then-n-eq0, else-n-eq0}
use Rattle.rules_bindings.proofs.bindings.binding_fingerprint.Goals as goal

pub returns : goal.returns
unfolding binding_fingerprint
returns c = elim c.if-n-eq0.branch [
  | then-n-eq0 w ↦ rw (c.from.ensures, c.from-2.ensures, c.from-3.ensures, c.binding_child.ensures.0, ← c.binding_path-path.ensures.1, w.last-is, eq-eqb _ _ w.if-n-eq0.true)
  | else-n-eq0 w ↦
      rw (c.from.ensures, c.from-2.ensures, c.from-3.ensures, c.binding_child.ensures.0, ← c.binding_path-path.ensures.1, ← c.binding_path-path.ensures.0, ne_eqb _ _ w.if-n-eq0.false, w.last-is, w.class_of-last.ensures, w.code_at.ensures)
]
