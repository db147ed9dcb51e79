use Rattle.private_elim.proofs.eliminate.eliminate_private.Given as goal

abbrev pub ghosts-take_picked : goal.ghosts-take_picked
ghosts-take_picked g a = record { name = a.blank.name; parts = a.blank.parts }
