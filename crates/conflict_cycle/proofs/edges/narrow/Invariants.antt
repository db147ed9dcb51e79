use Rattle.conflict_cycle.proofs.edges.narrow.Given as goal

abbrev pub ghost-add_hop : goal.ghost-add_hop
ghost-add_hop g a = g.whole
