use Rattle.claim_pass.proofs.lent.eliminate_picked.Given as goal

abbrev pub ghosts-eliminate_by : goal.ghosts-eliminate_by
ghosts-eliminate_by a = record { name = a.blank.name; parts = a.blank.parts }
