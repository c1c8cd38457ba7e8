use mathlib.Core.Path.{◌≡◌}
use lib.ListN.{length}
use Rattle.csdl.specs.Form.{type7a}
use Rattle.csdl.proofs.Loops.{First}
use Rattle.model_image.specs.Read.{model_read}
use Rattle.rules_names.specs.Digests.{type_fingerprint, Fingerprinted}
use Rattle.rules_names.proofs.repeats.first_type_7.Given as goal

abbrev pub invariant-loop-t : goal.invariant-loop-t
invariant-loop-t l = record {
  sized : length l.fingerprints ≡ 64;
  fingerprinted : Fingerprinted (λ v. type_fingerprint (model_read l.model) v) l.t l.fingerprints;
  searched : First (λ v. type7a (model_read l.model) v) (model_read l.model).types l.t;
}
