use mathlib.Core.Path.{refl}
use lib.ListN.{length-set}
use native.Mathlib.Numerals.{add-one}
use native.Mathlib.Omega.{arith}
use Rattle.csdl.proofs.Loops.{first-start, first-hit, first_next, first_end}
use Rattle.rules_names.proofs.Fingerprints.{fingerprinted_none, fingerprinted_more}
use Rattle.rules_names.proofs.repeats.first_child_7.Goals as goal

pub loop-h-init : goal.loop-h-init
loop-h-init c = record { sized = refl; fingerprinted = fingerprinted_none _ _; searched = first-start _ _ }

pub child_7-requires : goal.child_7-requires
child_7-requires c = fingerprinted_more _ _ _ _ (omega arith) c.child_fingerprint.ensures c.loop-h.invariant.fingerprinted

pub returns-then-child_7 : goal.returns-then-child_7
returns-then-child_7 c = rw (← first-hit _ _ _ _ c.loop-h.invariant.searched (omega arith) c.child_7.ensures c.if-child_7.true, add-one)

pub loop-h-preserved : goal.loop-h-preserved
loop-h-preserved c = record {
  sized = simp length-set c.loop-h.invariant.sized;
  fingerprinted = fingerprinted_more _ _ _ _ (omega arith) c.child_fingerprint.ensures c.loop-h.invariant.fingerprinted;
  searched = first_next _ _ _ _ c.loop-h.invariant.searched (omega arith) c.child_7.ensures c.if-child_7.false;
}

pub returns : goal.returns
returns c = rw (← first_end _ _ _ c.loop-h.invariant.searched (omega arith))
