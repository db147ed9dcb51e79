use Rattle.decoupling_facts.proofs.Neighbours.{neighbours_timed}
use Rattle.decoupling_facts.proofs.laws.timed_neighbours_are_later.Goals as goal

pub returns : goal.returns
returns c = λ arcs order joined tests is_set upward k listed unset zero ready j.
    neighbours_timed arcs order joined tests is_set upward k listed unset zero ready j
