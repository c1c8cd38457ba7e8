use Rattle.std.proofs.Common.{refl, sym, ◌∙◌}
use Rattle.model_image.specs.Read.{model_read}
use Rattle.model_image.proofs.PlaceLaws.{record_in}
use Rattle.model_naming.proofs.Names.{name_unformed, name-formed-at}
use Rattle.model_naming.proofs.held.name_at.Goals as goal

pub returns-then-is_err : goal.returns-then-is_err
returns-then-is_err c = rw (name_unformed _ _ _ c.check_3_to_5.ensures (sym c.is_err.ensures.value ∙ c.if-is_err.true)) (refl, refl)

pub returns : goal.returns
returns c =
    let at = rw (c.places.ensures.value, record_in (model_read c.args.model.now) c.args.place) at c.record_at.ensures in
    rw (name-formed-at _ _ _ c.check_3_to_5.ensures (sym c.is_err.ensures.value ∙ c.if-is_err.false), ← at) c.name_held.ensures
