use Rattle.std.proofs.Common.{◌≡◌, length}
use Rattle.type_hierarchy.proofs.Closing.{Reached}
use Rattle.instance_containment.specs.Rows.{in_row}
use Rattle.instance_containment.proofs.rows.close_rows.Given as goal

abbrev pub invariant-loop-c : goal.invariant-loop-c
invariant-loop-c l = (length l.rows ≡ 1024) × Reached l.n l.c (in_row l.initial.rows) (in_row l.rows)
