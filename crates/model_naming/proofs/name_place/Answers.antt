use mathlib.Core.Path.{◌≡◌, ap}
use native.Mathlib.Omega.{arith}
use Rattle.csdl.specs.Image.{names_from}
use Rattle.model_naming.proofs.Names.{names-below}
use Rattle.model_naming.proofs.name_place.Goals as goal

pub overflow_add-start : goal.overflow_add-start
overflow_add-start c = let e : c.starts_of-from.result.names ≡ names_from c.args.image.now =
    ap (λ s. s.names) (rw c.counts_of.ensures at c.starts_of-from.ensures) in
    record { fits = omega (arith, e, names-below c.args.image.now) }

pub returns : goal.returns
returns c = (rw (c.starts_of-from.ensures, c.counts_of.ensures) (omega (arith, c.record_name-name.ensures.0)), c.record_name-name.ensures.1)
