use Rattle.conflict_cycle.proofs.edges.add_hop.Given as goal

abbrev pub ghost-add_walk : goal.ghost-add_walk
ghost-add_walk g a = record { net = g.whole; state = a.shared.now.state }
