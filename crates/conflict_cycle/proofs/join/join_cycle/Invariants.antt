use Rattle.conflict_cycle.proofs.join.join_cycle.Given as goal

abbrev pub ghost-closed_walk : goal.ghost-closed_walk
ghost-closed_walk a = record { net = a.net.now; state = a.shared.now.state }
