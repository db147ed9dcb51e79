use Rattle.conflict_cycle.proofs.join.closed_walk.Given as goal

abbrev pub ghost-add_walk : goal.ghost-add_walk
ghost-add_walk g a = g.whole
