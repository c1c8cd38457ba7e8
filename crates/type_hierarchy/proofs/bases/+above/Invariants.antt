use Rattle.type_hierarchy.proofs.bases.+above.Given as goal

abbrev pub decreases-above : goal.decreases-above
decreases-above l = l.left
