use Rattle.std.proofs.Common.{◌∙◌}
use borrow.Author.Tests.{ne_eqb}
use native.Mathlib.Omega.{arith}
use Rattle.rules_names.proofs.Fingerprints.{fingerprints_apart, types_apart}
use Rattle.rules_names.proofs.repeats.same_type.Goals as goal

pub returns-else-fingerprints-u : goal.returns-else-fingerprints-u
returns-else-fingerprints-u c = ne_eqb _ _ c.if-fingerprints-u.false ∙ types_apart _ c.args.t c.args.u (fingerprints_apart _ _ c.args.fingerprints.now c.requires.1 c.args.u c.args.t (omega (arith, c.requires.0)) (omega arith) c.if-fingerprints-u.false)
