use Rattle.std.proofs.Common.{◌≡◌, ℕ, ◌≤◌, ◌<◌, length, get_or}
use Rattle.rules_names.specs.Digests.{Fingerprinted}
use Rattle.rules_names.proofs.digests.fingerprints.Given as goal

abbrev pub invariant-loop-k : goal.invariant-loop-k
invariant-loop-k g l = record {
  sized : length l.fingerprints ≡ g.row.N;
  filled : (fingerprint : ℕ → ℕ) → ((k x : ℕ) → k < l.fn.n → goal.F-post g l.fn.of k x → x ≡ fingerprint k) → Fingerprinted fingerprint l.k l.fingerprints;
  past : (k : ℕ) → l.k ≤ k → k < g.row.N → get_or l.fingerprints k 0 ≡ 0;
}
