use Rattle.elim_step.proofs.Roomings.{among_made}
use Rattle.elim_step.proofs.tests.eliminates_with_room.Goals as goal

pub eliminate_with_room-requires-clause-room : goal.eliminate_with_room-requires-clause-room
eliminate_with_room-requires-clause-room g c = λ i j at_i at_j apart.
    among_made _ i j c.args.others.now _ (c.in_ok-make_room_among.ensures.room i j) apart at_i at_j

pub eliminate_with_room-requires-clause-light : goal.eliminate_with_room-requires-clause-light
eliminate_with_room-requires-clause-light g c = λ p q. rw (c.in_ok-make_room_among.ensures.cells p q) (c.fill.ensures.light p q)
