use Prim.Native.Nat.{ℕ}
use mathlib.Core.Path.{ap, ◌∙◌}
use mathlib.Core.List.{List}
use Rattle.packed.specs.Bytes.{same}
use Rattle.model_image.specs.Read.{model_read}
use Rattle.csdl.specs.Model.{model_of}
use Rattle.name_classes.proofs.first_properties.has_name.Goals as goal

pub returns : goal.returns
unfolding model_read model_of
returns c = c.same_bytes.ensures ∙ ap (λ (x : List ℕ). same x c.args.name.now) c.property_text.ensures
