use Rattle.rules_names.proofs.Identifiers.{Limited}
use Rattle.rules_names.proofs.names.identifier_limits.Given as goal

abbrev pub invariant-loop-i : goal.invariant-loop-i
invariant-loop-i l = Limited l.names l.limits l.words l.i
