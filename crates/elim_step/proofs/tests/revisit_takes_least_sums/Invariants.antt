use Rattle.elim_step.proofs.tests.revisit_takes_least_sums.Given as goal

abbrev pub ghosts-revisits : goal.ghosts-revisits
ghosts-revisits g a = record { name = a.blank.name; parts = a.blank.parts }
