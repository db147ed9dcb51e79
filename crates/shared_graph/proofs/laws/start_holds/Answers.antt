use Rattle.shared_graph.specs.States.{start}
use Rattle.shared_graph.proofs.states.Keeps.{start_sound, together}
use Rattle.shared_graph.proofs.laws.start_holds.Goals as goal

pub returns : goal.returns
returns c = λ face known. together face known start (start_sound face known)
