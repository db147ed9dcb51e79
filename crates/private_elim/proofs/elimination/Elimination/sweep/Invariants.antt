use Rattle.private_elim.proofs.elimination.Elimination.sweep.Given as goal

abbrev pub ghost-revisit_all : goal.ghost-revisit_all
ghost-revisit_all g a = g.entries
