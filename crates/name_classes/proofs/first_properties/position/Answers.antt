use Prim.Native.Nat.{ℕ}
use mathlib.Core.List.{List}
use Rattle.std.proofs.Common.{rules}
use Rattle.std.proofs.lemmas.List.Sorted.{IsPartitionPoint-from_clause}
use Rattle.name_classes.specs.Classes.{name_of}
use Rattle.name_classes.specs.Order.{before}
use Rattle.name_classes.proofs.Sorting.{parted, stands}
use Rattle.name_classes.proofs.first_properties.position.Goals as goal

pub returns : goal.returns
returns c =
    let name : ℕ → List ℕ = λ p. name_of c.args.model.now.properties.now c.args.model.now.names.now p in
    stands name _ c.requires.1 _ _ c.partition_point.ensures.bound
    (IsPartitionPoint-from_clause (λ p. before (name p) c.args.name.now) _ _ c.partition_point.ensures.partitioned (parted name _ c.requires.1 _) (λ a r q k. search rules))
