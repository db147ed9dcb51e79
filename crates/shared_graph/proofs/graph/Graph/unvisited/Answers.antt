use Rattle.shared_graph.proofs.graphs.Telling.{unvisited_told}
use Rattle.shared_graph.proofs.graph.Graph.unvisited.Goals as goal

pub returns : goal.returns
returns g c = rw (← c.self.view_is) (unvisited_told _ c.self.invariant)
