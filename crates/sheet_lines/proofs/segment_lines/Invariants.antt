-- The lines of the first g segments were put.
use Rattle.std.proofs.Common.{◌≡◌, ◌+◌, ◌*◌, ◌≤◌, ◌++◌}
use Rattle.arrayvec.specs.ArrayString.{array_string_len}
use Rattle.sheet_lines.specs.Lines.{code_lines}
use Rattle.sheet_lines.proofs.segment_lines.Given as goal

abbrev pub invariant-loop-g : goal.invariant-loop-g
invariant-loop-g g l =
    (array_string_len l.text ≤ array_string_len l.initial.text + 21 * l.g) × (l.text.bytes ≡ l.initial.text.bytes ++ code_lines l.codes l.first l.g)
