use mathlib.Core.Path.{◌≡◌}
use lib.ListN.{length}
use Rattle.csdl.proofs.Loops.{First}
use Rattle.model_image.specs.Read.{model_read}
use Rattle.rules_names.specs.Digests.{Fingerprinted}
use Rattle.rules_keys.specs.Keys.{key_fingerprint, key_coded}
use Rattle.rules_keys.proofs.keys.first_15.Given as goal

abbrev pub invariant-loop-k : goal.invariant-loop-k
invariant-loop-k l = record {
  sized : length l.fingerprints ≡ 128;
  fingerprinted : Fingerprinted (λ i. key_fingerprint (model_read l.lookup.hierarchy.model) l.codes i) l.k l.fingerprints;
  searched : First (λ i. key_coded (model_read l.lookup.hierarchy.model) l.codes i) (model_read l.lookup.hierarchy.model).keys l.k;
}
