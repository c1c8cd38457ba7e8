use Prim.Native.Nat.{ℕ}
use mathlib.Core.Path.{ap, ◌∙◌}
use mathlib.Core.List.{List}
use Rattle.name_classes.specs.Order.{before}
use Rattle.model_image.specs.Read.{model_read}
use Rattle.csdl.specs.Model.{model_of}
use Rattle.name_classes.proofs.first_properties.named_before.Goals as goal

pub returns : goal.returns
unfolding model_read model_of
returns c = c.comes_before.ensures ∙ ap (λ (x : List ℕ). before x c.args.name.now) c.property_text.ensures
