use Rattle.private_elim.proofs.elimination.Elimination.bounds.Given as goal

abbrev pub ghosts-sweep : goal.ghosts-sweep
ghosts-sweep g a = record { name = a.blank.name; parts = a.blank.parts }

abbrev pub ghost-sweep : goal.ghost-sweep
ghost-sweep g a = a.finals.now
