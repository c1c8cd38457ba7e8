use mathlib.Core.Path.{◌≡◌, sym}
use mathlib.Core.List.{append-nil, append_assoc}
use Prim.Native.Nat.{◌+◌, ◌*◌}
use native.Mathlib.Omega.{arith}
use Rattle.std.proofs.Common.{add-one, get_or}
use Rattle.sheet_lines.specs.Lines.{code_lines, segment_line}
use Rattle.sheet_lines.proofs.segment_lines.Goals as goal

pub loop-g-init : goal.loop-g-init
unfolding code_lines
loop-g-init g c = (omega arith, sym (append-nil c.args.text.now.bytes))

pub loop-g-preserved : goal.loop-g-preserved
unfolding code_lines
loop-g-preserved g c =
    let i = c.loop-g.invariant in
    let e = c.segment_line.ensures in
    (omega (arith, e.bound, i.0), rw (add-one, e.after, i.1, c.code_at.ensures) (append_assoc c.args.text.now.bytes (code_lines c.args.codes.now c.args.first c.loop-g.g) (segment_line (c.args.first + c.loop-g.g) (256 * get_or c.args.codes.now (2 * c.loop-g.g) 0 + get_or c.args.codes.now (2 * c.loop-g.g + 1) 0))))
