use Rattle.shared_graph.proofs.states.Keeps.{sound_of}
use Rattle.shared_graph.proofs.states.Rising.{negatives_none, negatives_least}
use Rattle.shared_graph.proofs.laws.least_negatives_are_least.Goals as goal

pub returns : goal.returns
returns c = λ face known s holds k.
    (negatives_none face known s (sound_of face known s holds) k, negatives_least face known s (sound_of face known s holds) k)
