use Rattle.private_elim.proofs.eliminate.eliminate_listed.Given as goal

abbrev pub ghosts-take_listed : goal.ghosts-take_listed
ghosts-take_listed a = record { name = a.blank.name; parts = a.blank.parts }
