use mathlib.Core.Path.{◌≡◌}
use Prim.Native.Nat.{◌+◌, ◌-◌}
use lib.Seq.{drop-drop}
use native.Mathlib.Omega.{arith}
use Rattle.rules_segments.proofs.Keeping.{run_copied}
use Rattle.rules_segments.proofs.unresolved.keep_run.Goals as goal

pub returns : goal.returns
returns c =
    let z : c.args.first + c.args.count - c.args.first ≡ c.args.count = omega arith in
    rw (z, c.copy_from_slice.ensures.after, drop-drop) (run_copied c.args.run.now c.args.codes.now c.args.first c.args.count (omega (arith, c.requires)) c.requires.2)
