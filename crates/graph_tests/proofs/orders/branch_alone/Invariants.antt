use Rattle.graph_tests.proofs.orders.branch_alone.Given as goal

abbrev pub ghosts-branch : goal.ghosts-branch
ghosts-branch a = record { name = a.blank.name; parts = a.blank.parts }
