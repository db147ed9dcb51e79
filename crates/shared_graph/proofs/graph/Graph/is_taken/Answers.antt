use Rattle.shared_graph.proofs.graphs.Scans.{taken_at}
use Rattle.shared_graph.proofs.graph.Graph.is_taken.Goals as goal

pub returns : goal.returns
returns g c =
    let some = c.in-Some.ensures.some in
    taken_at _ c.self.invariant _ c.self.view_is c.in-Some.place c.args.point.0 c.index.result.now some.0 some.1 c.index.ensures
