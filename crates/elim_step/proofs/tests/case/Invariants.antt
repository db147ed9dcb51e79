use Rattle.elim_step.proofs.tests.case.Given as goal

abbrev pub ghosts-eliminates : goal.ghosts-eliminates
ghosts-eliminates g a = record { name = a.blank.name; parts = a.blank.parts }

abbrev pub ghosts-eliminates_among : goal.ghosts-eliminates_among
ghosts-eliminates_among g a = record { name = a.blank.name; parts = a.blank.parts }

abbrev pub ghosts-eliminates_with_room : goal.ghosts-eliminates_with_room
ghosts-eliminates_with_room g a = record { name = a.blank.name; parts = a.blank.parts }
