use Rattle.shared_graph.proofs.graphs.Scans.{revisited_at}
use Rattle.shared_graph.proofs.graph.Graph.was_revisited.Goals as goal

pub returns : goal.returns
returns g c =
    let some = c.in-Some.ensures.some in
    revisited_at _ c.self.invariant _ c.self.view_is c.in-Some.place c.args.point.0 c.index.result.now c.requires some.0 some.1 c.index.ensures
