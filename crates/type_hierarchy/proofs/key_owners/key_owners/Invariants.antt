use Prim.Native.Nat.{◌-◌, ◌≤◌}
use Rattle.type_hierarchy.specs.Sets.{Members}
use Rattle.type_hierarchy.specs.KeyOwners.{owns_key}
use Rattle.type_hierarchy.proofs.key_owners.key_owners.Given as goal

abbrev pub invariant-loop-k : goal.invariant-loop-k
invariant-loop-k l = (l.k ≤ l.k-end) × Members 64 l.owners (λ t. owns_key l.model.keys.now l.k t)

abbrev pub decreases-loop-k : goal.decreases-loop-k
decreases-loop-k l = l.k-end - l.k
