use Rattle.shared_graph.proofs.states.Keeps.{sound_of}
use Rattle.shared_graph.proofs.cells.Neighbours.{made_from, made_to}
use Rattle.shared_graph.proofs.laws.revisits_make.Goals as goal

pub returns : goal.returns
returns c = λ face summaries known s holds k j ready later. (
  made_from face known summaries s (sound_of face known s holds) k j ready later,
  made_to face known summaries s (sound_of face known s holds) k j ready later,
)
