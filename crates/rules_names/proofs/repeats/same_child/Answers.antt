use Rattle.std.proofs.Common.{◌∙◌}
use borrow.Author.Tests.{ne_eqb}
use native.Mathlib.Omega.{arith}
use Rattle.rules_names.proofs.Fingerprints.{fingerprints_apart, children_apart}
use Rattle.rules_names.proofs.repeats.same_child.Goals as goal

pub returns-else-fingerprints-j : goal.returns-else-fingerprints-j
returns-else-fingerprints-j c = ne_eqb _ _ c.if-fingerprints-j.false ∙ children_apart _ c.args.h c.args.j (fingerprints_apart _ _ c.args.fingerprints.now c.requires.1 c.args.j c.args.h (omega (arith, c.requires.0)) (omega arith) c.if-fingerprints-j.false)
