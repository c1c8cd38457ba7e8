use Prim.Native.Nat.{◌+◌, ◌-◌, ◌≤◌}
use mathlib.Core.Path.{◌≡◌, ap, ◌∙◌}
use mathlib.Core.Bool.{not}
use native.Mathlib.Omega.{arith}
use lib.ListN.{length, take, drop}
use lib.Seq.{get_or-drop}
use Rattle.std.proofs.lemmas.List.{get_or-take, length-take-le, length-drop}
use Rattle.packed.proofs.Laws.{same_pointwise}
use Rattle.type_names.proofs.WideLaws.{unlike_parts}
use Rattle.type_names.proofs.wide.unlike.Goals as goal

pub returns : goal.returns
returns c =
    let eight : c.args.from + 8 - c.args.from ≡ 8 = omega arith in
    let long : c.args.from + 8 - c.args.from ≤ length (drop c.args.from c.args.b.now) = rw (length-drop c.args.from c.args.b.now) (omega (arith, c.requires.1)) in
    c.ne.ensures ∙ ap not (same_pointwise _ _)
    ∙ unlike_parts c.args.a.now c.args.b.now c.args.from (take (c.args.from + 8 - c.args.from) (drop c.args.from c.args.b.now)) c.requires.0 (length-take-le _ _ long ∙ eight)
    (λ j h. get_or-take _ (drop c.args.from c.args.b.now) j 0 (omega (arith, eight, h)) ∙ get_or-drop c.args.from c.args.b.now j 0)
    (λ j. omega (arith, c.type_inv.a j)) (λ j. omega (arith, c.type_inv.b j))
