use mathlib.Core.Path.{refl}
use lib.ListN.{length-set}
use native.Mathlib.Numerals.{add-one}
use native.Mathlib.Omega.{arith}
use Rattle.csdl.proofs.Loops.{first-start, first-hit, first_next, first_end}
use Rattle.rules_names.proofs.Fingerprints.{fingerprinted_none, fingerprinted_more}
use Rattle.rules_names.proofs.repeats.first_type_7.Goals as goal

pub loop-t-init : goal.loop-t-init
loop-t-init c = record { sized = refl; fingerprinted = fingerprinted_none _ _; searched = first-start _ _ }

pub type_7-requires : goal.type_7-requires
type_7-requires c = fingerprinted_more _ _ _ _ (omega arith) c.type_fingerprint.ensures c.loop-t.invariant.fingerprinted

pub returns-then-type_7 : goal.returns-then-type_7
returns-then-type_7 c = rw (← first-hit _ _ _ _ c.loop-t.invariant.searched (omega arith) c.type_7.ensures c.if-type_7.true, add-one)

pub loop-t-preserved : goal.loop-t-preserved
loop-t-preserved c = record {
  sized = simp length-set c.loop-t.invariant.sized;
  fingerprinted = fingerprinted_more _ _ _ _ (omega arith) c.type_fingerprint.ensures c.loop-t.invariant.fingerprinted;
  searched = first_next _ _ _ _ c.loop-t.invariant.searched (omega arith) c.type_7.ensures c.if-type_7.false;
}

pub returns : goal.returns
returns c = rw (← first_end _ _ _ c.loop-t.invariant.searched (omega arith))
