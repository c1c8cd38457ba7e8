use Rattle.std.proofs.Common.{◌<◌, refl, sym, ◌∙◌, arith}
use Rattle.model_image.proofs.Parts.{layout}
use Rattle.model_naming.proofs.Names.{named, none_bad, none_past}
use Rattle.model_naming.proofs.held.record_name.Goals as goal

pub returns-then-bad_image : goal.returns-then-bad_image
returns-then-bad_image c = rw (none_bad _ _ (sym c.bad_image.ensures ∙ c.if-bad_image.true)) (refl, refl)

pub returns-in_default : goal.returns-in_default
returns-in_default c =
    let past : 65535 < c.args.place = omega (arith, c.in_default.ensures) in
    rw (none_past _ _ (sym c.bad_image.ensures ∙ c.if-bad_image.false) past) (refl, refl)

pub read-requires : goal.read-requires
read-requires c = layout _ (sym c.bad_image.ensures ∙ c.if-bad_image.false)

pub returns : goal.returns
returns c = rw (named _ _ (sym c.bad_image.ensures ∙ c.if-bad_image.false), ← c.read.ensures.value, ← c.in-Ok.ensures.1) c.name_at.ensures
