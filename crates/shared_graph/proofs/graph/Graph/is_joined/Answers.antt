use Rattle.std.proofs.Common.{sym}
use Rattle.shared_graph.proofs.graphs.Telling.{strange_from, strange_to}
use Rattle.shared_graph.proofs.graph.Graph.is_joined.Goals as goal

pub returns-in_default : goal.returns-in_default
returns-in_default g c =
    let v = c.args.self.now in
    let told = c.in_default.ensures in
    sym (strange_from v.face c.place_of.ensures.interface v.state c.place_of.ensures.together c.args.i.0 c.args.j.0 told.none)

pub returns-in_default-place_of : goal.returns-in_default-place_of
returns-in_default-place_of g c =
    let v = c.args.self.now in
    let told = c.in_default-place_of.ensures in
    sym (strange_to v.face c.place_of.ensures.interface v.state c.place_of.ensures.together c.args.i.0 c.args.j.0 told.none)
