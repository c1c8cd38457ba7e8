use Prim.Native.Nat.{◌-◌, ◌≤◌}
use mathlib.Core.List.{◌∷◌}
use lib.ListN.{length}
use Rattle.name_classes.specs.Classes.{Sorted}
use Rattle.enumeration_members.specs.Earlier.{member_key}
use Rattle.enumeration_members.specs.Read.{members_read}
use Rattle.enumeration_members.proofs.Halving.{Between}
use Rattle.enumeration_members.proofs.names.position.Given as goal

abbrev pub invariant-loop-low : goal.invariant-loop-low
invariant-loop-low l = (sorted : Sorted (λ r. member_key (members_read l.members) r) l.order (length l.order))
    × Between (λ r. member_key (members_read l.members) r) l.order (length l.order) sorted (l.t ∷ l.name) l.low l.high × (length l.order ≤ 1024)

abbrev pub decreases-loop-low : goal.decreases-loop-low
decreases-loop-low l = l.high - l.low
