use Rattle.instance_containment.proofs.RowLaws.{Joining}
use Rattle.instance_containment.proofs.rows.pass.Given as goal

abbrev pub invariant-loop-j : goal.invariant-loop-j
invariant-loop-j l = Joining l.v l.c l.initial.rows l.rows l.j
