use mathlib.Core.Path.{◌≡◌}
use lib.ListN.{length}
use Rattle.csdl.proofs.Loops.{First}
use Rattle.model_image.specs.Read.{model_read}
use Rattle.rules_names.specs.Digests.{Fingerprinted}
use Rattle.rules_bindings.specs.Bindings.{binding_fingerprint, binding_coded}
use Rattle.rules_bindings.proofs.bindings.first_19.Given as goal

abbrev pub invariant-loop-b : goal.invariant-loop-b
invariant-loop-b l = record {
  sized : length l.fingerprints ≡ 128;
  fingerprinted : Fingerprinted (λ i. binding_fingerprint (model_read l.hierarchy.model) l.index l.codes i) l.b l.fingerprints;
  searched : First (λ i. binding_coded (model_read l.hierarchy.model) l.index l.codes i) (model_read l.hierarchy.model).bindings l.b;
}
