use Rattle.shared_graph.specs.States.{start}
use Rattle.shared_graph.proofs.states.Keeps.{start_sound, replay_sound, together}
use Rattle.shared_graph.proofs.laws.replays_hold.Goals as goal

pub returns : goal.returns
returns c = λ face summaries known fits es s is. together face known s (replay_sound face known summaries fits es start s (start_sound face known) is)
