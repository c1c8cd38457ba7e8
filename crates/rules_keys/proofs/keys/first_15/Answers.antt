use native.Mathlib.Numerals.{add-one}
use native.Mathlib.Omega.{arith}
use mathlib.Core.Path.{refl}
use lib.ListN.{length-set}
use Rattle.csdl.proofs.Loops.{first-start, first-hit, first_next, first_end}
use Rattle.rules_names.proofs.Fingerprints.{fingerprinted_none, fingerprinted_more}
use Rattle.rules_keys.proofs.Split.{key_split}
use Rattle.rules_keys.proofs.keys.first_15.Goals as goal

pub loop-k-init : goal.loop-k-init
loop-k-init c = record { sized = refl; fingerprinted = fingerprinted_none _ _; searched = first-start _ _ }

pub key_named-requires : goal.key_named-requires
key_named-requires c = fingerprinted_more _ _ _ _ (omega arith) c.key_fingerprint.ensures c.loop-k.invariant.fingerprinted

pub returns-then-owner_or_path_fails-key_named : goal.returns-then-owner_or_path_fails-key_named
returns-then-owner_or_path_fails-key_named c =
    rw (← first-hit _ _ _ _ c.loop-k.invariant.searched (omega arith) (rw (c.owner_or_path_fails.ensures, c.key_named.ensures, c.alias_fails.ensures) (key_split _ _ _)) c.if-owner_or_path_fails-key_named.true, add-one)

pub loop-k-preserved : goal.loop-k-preserved
loop-k-preserved c = record {
  sized = simp length-set c.loop-k.invariant.sized;
  fingerprinted = fingerprinted_more _ _ _ _ (omega arith) c.key_fingerprint.ensures c.loop-k.invariant.fingerprinted;
  searched = first_next _ _ _ _ c.loop-k.invariant.searched (omega arith) (rw (c.owner_or_path_fails.ensures, c.key_named.ensures, c.alias_fails.ensures) (key_split _ _ _)) c.if-owner_or_path_fails-key_named.false;
}

pub returns : goal.returns
returns c = rw (← first_end _ _ _ c.loop-k.invariant.searched (omega arith))
