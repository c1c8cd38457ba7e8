use mathlib.Core.Path.{ap, ap₂, ◌∙◌}
use Prim.Native.Nat.{◌<◌}
use native.Mathlib.Omega.{arith}
use Rattle.csdl.specs.Walk.{path_chosen}
use Rattle.csdl.specs.declared.Record.{Record}
use Rattle.model_image.specs.declared.places.Places.{Places}
use Rattle.model_image.specs.Places.{record_by}
use Rattle.model_image.specs.Read.{model_read}
use Rattle.model_image.proofs.PlaceLaws.{record_in}
use Rattle.walk_path.proofs.Choices.{far}
use Rattle.walk_path.proofs.choose.Goals as goal

pub returns-in-Ok : goal.returns-in-Ok
returns-in-Ok c =
    let m = model_read c.args.model.now in
    c.path_chosen.ensures ∙ ap (λ (r : Record). path_chosen m r c.args.path) (c.record_at.ensures ∙ ap₂ record_by c.places-places.ensures.value c.in-Ok.ensures.1 ∙ record_in m c.args.place)

pub returns-in-Err : goal.returns-in-Err
returns-in-Err c =
    let no : c.args.place < 65536 → ⊥ = c.in-Err.ensures in
    far (model_read c.args.model.now) c.args.place c.args.path (omega (arith, no, ap (λ (x : Places). x.end) c.places-places.ensures.value, c.places-places.ensures.bound))
