use Rattle.shared_graph.proofs.states.Keeps.{sound_of}
use Rattle.shared_graph.proofs.states.Progress.{may_publish, may_eliminate, may_revisit}
use Rattle.shared_graph.proofs.laws.steps_go_on.Goals as goal

pub returns : goal.returns
returns c = λ face known s holds going. (
  may_publish face known s (sound_of face known s holds) going,
  may_eliminate face known s (sound_of face known s holds) going,
  may_revisit face known s (sound_of face known s holds) going,
)
