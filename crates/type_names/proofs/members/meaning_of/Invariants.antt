use Prim.Native.Nat.{◌+◌}
use lib.ListN.{get_or}
use Rattle.csdl.specs.Tables.{type_base, type_count, property_owner}
use Rattle.type_names.proofs.Meanings.{Meant}
use Rattle.type_names.proofs.members.meaning_of.Given as goal

abbrev pub invariant-loop-p : goal.invariant-loop-p
invariant-loop-p l = Meant (λ q. property_owner l.model.properties.now q) (λ q. get_or l.index (512 + q) 0) (λ u. type_base l.model.types.now u) (type_count l.model.types.now) l.t l.p l.nearest l.near
