use Rattle.shared_graph.proofs.cells.Orders.{joined_is}
use Rattle.shared_graph.proofs.laws.joined_is_joined.Goals as goal

pub returns : goal.returns
returns c = λ face s i j. joined_is face s i j
