use Rattle.type_hierarchy.proofs.nearness.+climb.Given as goal

abbrev pub decreases-climb : goal.decreases-climb
decreases-climb l = l.left
