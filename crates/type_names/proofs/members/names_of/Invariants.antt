use mathlib.Core.Path.{◌≡◌}
use mathlib.Core.Bool.{◌&&◌}
use lib.ListN.{length}
use lib.Dec.{ltb}
use Rattle.csdl.specs.Find.{is_name_of}
use Rattle.model_image.specs.Read.{model_read}
use Rattle.type_names.specs.Wide.{MembersWide}
use Rattle.type_names.proofs.members.names_of.Given as goal

abbrev pub invariant-loop-p : goal.invariant-loop-p
invariant-loop-p l = (length l.set ≡ 8) × MembersWide l.set 0 (λ q. ltb q l.p && is_name_of (model_read l.model) l.t q)
