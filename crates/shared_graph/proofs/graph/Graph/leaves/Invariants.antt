use Rattle.shared_graph.proofs.graph.Graph.leaves.Given as goal

abbrev pub ghost-unfold : goal.ghost-unfold
ghost-unfold g a = g.places
