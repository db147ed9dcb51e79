use Rattle.shared_graph.proofs.states.Grounds.{state_ground}
use Rattle.shared_graph.proofs.laws.states_have_ground.Goals as goal

pub returns : goal.returns
returns c = λ face known s holds. state_ground face known s holds.fitting
