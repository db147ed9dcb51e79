use Rattle.shared_graph.specs.Graphs.{places_in}
use Rattle.shared_graph.proofs.graph.Graph.legs.Given as goal

abbrev pub ghost-leaves : goal.ghost-leaves
ghost-leaves g a = record { points = places_in a.self.now.face; es = a.self.now.state.order }
