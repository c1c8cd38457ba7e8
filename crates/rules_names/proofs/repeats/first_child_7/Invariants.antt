use mathlib.Core.Path.{◌≡◌}
use lib.ListN.{length}
use Rattle.csdl.specs.Form.{child7b}
use Rattle.csdl.proofs.Loops.{First}
use Rattle.model_image.specs.Read.{model_read}
use Rattle.rules_names.specs.Digests.{child_fingerprint, Fingerprinted}
use Rattle.rules_names.proofs.repeats.first_child_7.Given as goal

abbrev pub invariant-loop-h : goal.invariant-loop-h
invariant-loop-h l = record {
  sized : length l.fingerprints ≡ 64;
  fingerprinted : Fingerprinted (λ v. child_fingerprint (model_read l.model) v) l.h l.fingerprints;
  searched : First (λ v. child7b (model_read l.model) v) (model_read l.model).children l.h;
}
