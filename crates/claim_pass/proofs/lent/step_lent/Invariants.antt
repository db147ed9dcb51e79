use Rattle.claim_pass.proofs.lent.step_lent.Given as goal

abbrev pub ghosts-revisit_by : goal.ghosts-revisit_by
ghosts-revisit_by a = record { name = a.blank.name; parts = a.blank.parts }
