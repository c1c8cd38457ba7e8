use Prim.Native.Nat.{◌+◌}
use native.Mathlib.Omega.{arith}
use Rattle.rules_names.proofs.Fingerprints.{fingerprints_apart}
use Rattle.rules_bindings.specs.Bindings.{again_bound}
use Rattle.rules_bindings.proofs.Comparing.{bindings_apart}
use Rattle.rules_bindings.proofs.bindings.again_bound.Goals as goal

pub returns-then-fingerprints-j : goal.returns-then-fingerprints-j
returns-then-fingerprints-j c = bindings_apart _ _ _ c.args.j c.args.b (fingerprints_apart _ (c.args.b + 1) c.args.fingerprints.now c.requires.1 c.args.j c.args.b (omega (arith, c.requires.0)) (omega arith) c.if-fingerprints-j.true)

pub returns : goal.returns
unfolding again_bound
returns c = rw (← c.binding_child.ensures.0, ← c.binding_child-2.ensures.0, ← c.binding_path-earlier.ensures.1, ← c.binding_path-path.ensures.1, ← c.binding_path-earlier.ensures.0, ← c.binding_path-path.ensures.0, c.other_class.ensures)
