use Rattle.graph_tests.proofs.tables.a_ring_stops_at_the_second_point.Given as goal

abbrev pub ghosts-tries : goal.ghosts-tries
ghosts-tries g a = record { name = a.blank.name; parts = a.blank.parts }
