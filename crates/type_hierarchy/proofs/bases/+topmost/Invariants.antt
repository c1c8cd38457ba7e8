use Rattle.type_hierarchy.proofs.bases.+topmost.Given as goal

abbrev pub decreases-topmost : goal.decreases-topmost
decreases-topmost l = l.left
