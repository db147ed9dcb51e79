use Rattle.std.proofs.Common.{arith}
use Rattle.std.proofs.lemmas.Int.{ints}
use Rattle.plain_solve.proofs.GraphLemmas.{turned_graph}
use Rattle.plain_solve.proofs.graph.turned.Goals as goal

pub returns-clause-graph : goal.returns-clause-graph
returns-clause-graph c =
    let valid = c.points-points.ensures.valid in
    let low = valid.horizon_low in
    let high = valid.horizon_high in
    let top = c.horizon-top.ensures.horizon in
    let many = c.points-points.ensures.count in
    let within = c.requires in
    turned_graph c.args.net.now valid _ many (omega arith) (omega (arith, ints)) c.in_ok-arcs.ensures
