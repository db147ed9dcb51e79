use Rattle.decoupling_facts.proofs.Neighbours.{joined_turned}
use Rattle.decoupling_facts.proofs.laws.joined_turns.Goals as goal

pub returns : goal.returns
returns c = λ arcs order i j h. joined_turned arcs order i j h
