use mathlib.Core.Path.{refl}
use Rattle.std.proofs.Common.{rules, tests, ◌+◌, not, eqb, get_or}
use Rattle.csdl.proofs.Chains.{any_by_any}
use Rattle.rules_bindings.specs.Bindings.{class_of}
use Rattle.rules_bindings.proofs.classes.other_class.Goals as goal

pub returns : goal.returns
returns c =
    any_by_any _ (λ k. not (eqb (class_of c.args.index.now (get_or c.args.codes.now (c.args.g + k) 0)) (class_of c.args.index.now (get_or c.args.codes.now (c.args.h + k) 0)))) _ refl c.any.ensures.ran
    (λ x b q k. search (rules, tests))
