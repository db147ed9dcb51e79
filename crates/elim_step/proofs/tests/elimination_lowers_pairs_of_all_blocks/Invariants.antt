use Rattle.elim_step.proofs.tests.elimination_lowers_pairs_of_all_blocks.Given as goal

abbrev pub ghosts-star : goal.ghosts-star
ghosts-star g a = record { name = a.blank.name; parts = a.blank.parts }
