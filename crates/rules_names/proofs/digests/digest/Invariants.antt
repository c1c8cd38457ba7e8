use Rattle.std.proofs.Common.{◌≡◌, ◌<◌}
use Rattle.rules_names.specs.Digests.{digest_to}
use Rattle.rules_names.proofs.digests.digest.Given as goal

abbrev pub invariant-loop-i : goal.invariant-loop-i
invariant-loop-i l = (l.d < 4294967296) × (l.d ≡ digest_to l.s l.i)
