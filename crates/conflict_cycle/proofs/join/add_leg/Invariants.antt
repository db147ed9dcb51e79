use Rattle.conflict_cycle.proofs.join.add_leg.Given as goal

abbrev pub ghost-add_published : goal.ghost-add_published
ghost-add_published g a = g.whole.net
