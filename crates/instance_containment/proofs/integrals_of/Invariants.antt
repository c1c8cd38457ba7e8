use Rattle.std.proofs.Common.{◌≡◌, ◌&&◌, ltb, length}
use Rattle.csdl.specs.Find.{integral}
use Rattle.model_image.specs.Read.{model_read}
use Rattle.type_names.specs.Wide.{MembersWide}
use Rattle.instance_containment.proofs.integrals_of.Given as goal

abbrev pub invariant-loop-p : goal.invariant-loop-p
invariant-loop-p l = (length l.set ≡ 8) × MembersWide l.set 0 (λ q. ltb q l.p && integral (model_read l.model) q)
