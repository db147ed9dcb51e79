use Rattle.shared_graph.proofs.states.Keeps.{sound_of}
use Rattle.shared_graph.proofs.cells.Revisits.{sums_from, sums_to}
use Rattle.shared_graph.proofs.laws.revisits_sum.Goals as goal

pub returns : goal.returns
returns c = λ face known s holds whole k j out apart.
    (sums_from face known s (sound_of face known s holds) k whole j out apart, sums_to face known s (sound_of face known s holds) k whole j out apart)
