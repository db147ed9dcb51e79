use Rattle.shared_graph.proofs.times.Progressing.{lies_inside}
use Rattle.shared_graph.proofs.times_laws.times_lie_inside.Goals as goal

pub returns : goal.returns
returns c = λ face known s holds k a is. lies_inside face known s holds k a is
