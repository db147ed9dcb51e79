use Rattle.decoupling_facts.proofs.Neighbours.{neighbours_meet}
use Rattle.decoupling_facts.proofs.laws.later_neighbours_meet.Goals as goal

pub returns : goal.returns
returns c = λ arcs order k i j h g apart. neighbours_meet arcs order k i j h g apart
