use mathlib.Core.Path.{◌≡◌}
use Prim.Native.Nat.{◌+◌, ◌*◌}
use native.Mathlib.Omega.{arith}
use Rattle.packed.proofs.Laws.{field_16}
use Rattle.sheet_lines.proofs.code_at.Goals as goal

pub returns : goal.returns
returns c =
    let k = 2 * c.args.g in
    let z : 16 * c.args.g ≡ 8 * k = omega arith in
    rw (c.number_at.ensures, z, field_16 c.args.codes.now k (omega (arith, c.type_inv.codes k)) (omega (arith, c.type_inv.codes (k + 1)))) (omega arith)
