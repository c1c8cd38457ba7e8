use mathlib.Core.Path.{refl}
use native.Mathlib.Numerals.{add-one}
use native.Mathlib.Omega.{arith}
use lib.ListN.{length-set}
use Rattle.csdl.proofs.Loops.{first-start, first-hit, first_next, first_end}
use Rattle.rules_names.proofs.Fingerprints.{fingerprinted_none, fingerprinted_more}
use Rattle.rules_bindings.proofs.Split.{binding_split}
use Rattle.rules_bindings.proofs.bindings.first_19.Goals as goal

pub loop-b-init : goal.loop-b-init
loop-b-init c = record { sized = refl; fingerprinted = fingerprinted_none _ _; searched = first-start _ _ }

pub binding_again-requires : goal.binding_again-requires
binding_again-requires c = fingerprinted_more _ _ _ _ (omega arith) c.binding_fingerprint.ensures c.loop-b.invariant.fingerprinted

pub returns-then-binding_paths_fail-binding_again : goal.returns-then-binding_paths_fail-binding_again
returns-then-binding_paths_fail-binding_again c =
    rw (← first-hit _ _ _ _ c.loop-b.invariant.searched (omega arith) (rw (c.binding_paths_fail.ensures, c.binding_again.ensures) (binding_split _ _ _ _)) c.if-binding_paths_fail-binding_again.true, add-one)

pub loop-b-preserved : goal.loop-b-preserved
loop-b-preserved c = record {
  sized = simp length-set c.loop-b.invariant.sized;
  fingerprinted = fingerprinted_more _ _ _ _ (omega arith) c.binding_fingerprint.ensures c.loop-b.invariant.fingerprinted;
  searched = first_next _ _ _ _ c.loop-b.invariant.searched (omega arith) (rw (c.binding_paths_fail.ensures, c.binding_again.ensures) (binding_split _ _ _ _)) c.if-binding_paths_fail-binding_again.false;
}

pub returns : goal.returns
returns c = rw (← first_end _ _ _ c.loop-b.invariant.searched (omega arith))
