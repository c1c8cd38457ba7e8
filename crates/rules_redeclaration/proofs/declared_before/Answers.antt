use mathlib.Core.Bool.{◌||◌}
use lib.Dec.{leb, eqb}
use Rattle.std.proofs.Common.{rules, tests}
use Rattle.csdl.specs.Properties.{property11a, same_name}
use Rattle.model_image.specs.Read.{model_read}
use Rattle.rules_redeclaration.proofs.Tests.{first_before}
use Rattle.rules_redeclaration.proofs.declared_before.Goals as goal

pub returns : goal.returns
unfolding property11a
returns c = let m = model_read c.args.lookup.now.hierarchy.model in
    first_before (λ q. eqb (m.owner q) (m.owner c.args.p)) (λ q. same_name m c.args.p q) c.args.p m.properties c.first_alike_that-first.result c.is_some_and.result _ c.requires
    (c.first_alike_that-first.ensures (λ q. leb c.args.p q || eqb (m.owner q) (m.owner c.args.p)) (λ q b k. search (rules, tests)))
    c.is_some_and.ensures (λ q h. search (rules, tests))
