use mathlib.Core.Path.{◌∙◌}
use Rattle.csdl.specs.Model.{model_of}
use Rattle.csdl.specs.Paths.{key15b}
use Rattle.model_image.specs.Read.{model_read}
use Rattle.type_hierarchy.proofs.Owners.{owners_meet}
use Rattle.rules_keys.proofs.keys.key_above.Goals as goal

pub returns : goal.returns
unfolding model_read model_of key15b
returns c = rw (← c.key_owner.ensures.0) (c.meet.ensures ∙ owners_meet _ _ _ _ c.requires c.ancestors_at.ensures)
