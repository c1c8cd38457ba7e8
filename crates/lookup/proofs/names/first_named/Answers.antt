use mathlib.Core.Path.{refl, ap, ◌∙◌}
use native.Mathlib.Omega.{arith}
use Rattle.csdl.specs.Search.{found}
use Rattle.lookup.proofs.Chain.{guess_start}
use Rattle.lookup.proofs.Looking.{properties_counted, named_low}
use Rattle.lookup.proofs.names.first_named.Goals as goal

pub returns-then-has_name-clause-value : goal.returns-then-has_name-clause-value
returns-then-has_name-clause-value c = c.first_alike.ensures ∙ ap found (guess_start _ _ _ _ c.args.lookup.now.indexed _ (omega (arith, properties_counted c.args.lookup.now)) _ c.has_name.ensures c.if-has_name.true _ refl)

pub returns-then-has_name-clause-bound : goal.returns-then-has_name-clause-bound
returns-then-has_name-clause-bound c =
    named_low c.args.lookup.now _ _ (c.first_alike.ensures ∙ ap found (guess_start _ _ _ _ c.args.lookup.now.indexed _ (omega (arith, properties_counted c.args.lookup.now)) _ c.has_name.ensures c.if-has_name.true _ refl))

pub first_of-requires : goal.first_of-requires
first_of-requires c = rw (properties_counted c.args.lookup.now) c.args.lookup.now.indexed.ranked
