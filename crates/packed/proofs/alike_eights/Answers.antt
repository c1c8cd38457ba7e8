use native.Mathlib.Omega.{arith}
use mathlib.Core.Path.{◌≡◌}
use mathlib.Core.Bool.{true}
use Prim.Native.Nat.{◌*◌}
use Rattle.std.proofs.Common.{rules, tests}
use Rattle.std.specs.Bool.{⊤}
use Rattle.std.proofs.lemmas.Iterator.{first_from_Range}
use Rattle.packed.specs.Bytes.{same, part}
use Rattle.packed.proofs.Laws.{alike_to}
use Rattle.packed.proofs.alike_eights.Goals as goal

pub overflow_mul-result : goal.overflow_mul-result
overflow_mul-result c =
    let e = alike_to c.args.a.now c.args.b.now c.args.n c.requires.0 c.requires.1 _
    (first_from_Range _ _ _ _ (λ k. ⊤) (λ k. same (part c.args.a.now (8 * k) 8) (part c.args.b.now (8 * k) 8) ≡ true) c.find-alike.ensures.ran (λ x q k. tt) (λ x q k. search (rules, tests))) in
    record { fits = omega (arith, e.0, c.unwrap_or.ensures) }

pub returns : goal.returns
returns c =
    rw c.unwrap_or.ensures
    (alike_to c.args.a.now c.args.b.now c.args.n c.requires.0 c.requires.1 _
    (first_from_Range _ _ _ _ (λ k. ⊤) (λ k. same (part c.args.a.now (8 * k) 8) (part c.args.b.now (8 * k) 8) ≡ true) c.find-alike.ensures.ran (λ x q k. tt) (λ x q k. search (rules, tests))))
