use Rattle.shared_graph.proofs.graphs.Keeping.{stopped_graph}
use Rattle.shared_graph.proofs.graph.Graph.enter_stop.Goals as goal

pub invariant_of-self : goal.invariant_of-self
invariant_of-self g c = stopped_graph _ c.self.invariant _ c.self.view_is c.args.cycle c.requires.legal
