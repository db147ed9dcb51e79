use Rattle.shared_graph.proofs.states.Stops.{negative_stops}
use Rattle.shared_graph.proofs.laws.negatives_stop.Goals as goal

pub returns : goal.returns
returns c = λ face s by k i. negative_stops face s by k i
