use Rattle.std.proofs.Common.{sym, ap, arith, length, subst, List}
use Rattle.std.specs.List.{All}
use Rattle.std.proofs.lemmas.Int.{ints}
use Rattle.stn_model.specs.declared.ids.Constraint.{Constraint}
use Rattle.stn_model.specs.Net.{point_count}
use Rattle.stn_model.specs.Valid.{IsArcWithin}
use Rattle.plain_solve.proofs.GraphLemmas.{onward_graph}
use Rattle.plain_solve.proofs.graph.onward.Goals as goal

pub returns-clause-graph : goal.returns-clause-graph
returns-clause-graph c =
    let valid = c.points-points.ensures.valid in
    let low = valid.horizon_low in
    let high = valid.horizon_high in
    let top = c.horizon-top.ensures.horizon in
    onward_graph c.args.net.now valid _ c.points-points.ensures.count (omega arith) (omega (arith, ints)) c.in_ok-arcs.ensures
