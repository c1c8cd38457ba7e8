use mathlib.Core.Path.{◌≡◌}
use lib.ListN.{get_or}
use native.Mathlib.Omega.{arith}
use Rattle.std.proofs.Common.{rules, tests}
use Rattle.std.proofs.lemmas.Iterator.{first_from_Range}
use Rattle.packed.proofs.Laws.{differ_at}
use Rattle.packed.proofs.common_start.Goals as goal

pub returns : goal.returns
returns c = rw c.unwrap_or.ensures
    (differ_at c.args.a.now c.args.b.now c.min-n.result (omega arith) (omega arith) _ c.alike_eights.ensures.0 (omega arith) c.alike_eights.ensures.1 _
    (first_from_Range _ _ _ _ (λ k. get_or c.args.a.now k 0 ≡ get_or c.args.b.now k 0 → ⊥) (λ k. get_or c.args.a.now k 0 ≡ get_or c.args.b.now k 0) c.find-first.ensures.ran (λ x q k. search (rules, tests)) (λ x q k. search (rules, tests))))
