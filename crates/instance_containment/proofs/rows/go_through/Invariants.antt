use Rattle.std.proofs.Common.{◌≡◌, length}
use Rattle.type_hierarchy.proofs.Closing.{Going}
use Rattle.instance_containment.specs.Rows.{in_row}
use Rattle.instance_containment.proofs.rows.go_through.Given as goal

abbrev pub invariant-loop-v : goal.invariant-loop-v
invariant-loop-v l = (length l.rows ≡ 1024) × Going 256 l.v l.c (in_row l.initial.rows) (in_row l.rows)
