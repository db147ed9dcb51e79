use Rattle.elim_step.proofs.tests.revisit_by_rows_takes_least_sums.Given as goal

abbrev pub ghosts-revisits_by_rows : goal.ghosts-revisits_by_rows
ghosts-revisits_by_rows g a = record { name = a.blank.name; parts = a.blank.parts }
