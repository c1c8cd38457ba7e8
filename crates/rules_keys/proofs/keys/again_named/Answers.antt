use Prim.Native.Nat.{◌+◌}
use native.Mathlib.Omega.{arith}
use Rattle.rules_names.proofs.Fingerprints.{fingerprints_apart}
use Rattle.rules_keys.specs.Keys.{again_named}
use Rattle.rules_keys.proofs.Split.{keys_apart}
use Rattle.rules_keys.proofs.keys.again_named.Goals as goal

pub returns-then-fingerprints-j : goal.returns-then-fingerprints-j
returns-then-fingerprints-j c = keys_apart _ _ c.args.j c.args.k (fingerprints_apart _ (c.args.k + 1) c.args.fingerprints.now c.requires.1 c.args.j c.args.k (omega (arith, c.requires.0)) (omega arith) c.if-fingerprints-j.true)

pub returns : goal.returns
unfolding again_named
returns c = rw (← c.key_owner.ensures.0, ← c.key_owner-2.ensures.0, ← c.key_name.ensures, ← c.key_name-2.ensures, c.same_bytes.ensures)
