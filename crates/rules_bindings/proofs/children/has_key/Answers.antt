use mathlib.Core.Path.{◌∙◌}
use Rattle.csdl.specs.Model.{model_of}
use Rattle.csdl.specs.Find.{has_key}
use Rattle.model_image.specs.Read.{model_read}
use Rattle.type_hierarchy.proofs.Owners.{owners_meet}
use Rattle.rules_bindings.proofs.children.has_key.Goals as goal

pub returns : goal.returns
unfolding model_read model_of has_key
returns c = c.meet.ensures ∙ owners_meet _ _ _ _ c.requires c.with_ancestors.ensures
