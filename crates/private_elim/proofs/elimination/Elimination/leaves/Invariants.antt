use Rattle.private_elim.proofs.elimination.Elimination.leaves.Given as goal

abbrev pub ghost-unfold : goal.ghost-unfold
ghost-unfold g a = g.places
