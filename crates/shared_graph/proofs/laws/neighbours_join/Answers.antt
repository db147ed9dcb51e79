use Rattle.shared_graph.proofs.cells.Neighbours.{neighbours_join}
use Rattle.shared_graph.proofs.laws.neighbours_join.Goals as goal

pub returns : goal.returns
returns c = λ face s k m j there one two apart. neighbours_join face s k m j there one two apart
