use Prim.Native.Nat.{◌≤◌}
use Rattle.name_classes.specs.Classes.{name_of, Ranked}
use Rattle.name_classes.proofs.first_properties.ranked.Given as goal

abbrev pub invariant-loop-p : goal.invariant-loop-p
invariant-loop-p l = (l.p-end ≤ 512) × Ranked (λ q. name_of l.model.properties.now l.model.names.now q) l.p l.firsts l.index
