use Rattle.type_hierarchy.proofs.ancestors.+with_above.Given as goal

abbrev pub decreases-with_above : goal.decreases-with_above
decreases-with_above l = l.left
