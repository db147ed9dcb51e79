use Rattle.plain_solve.proofs.OrderLemmas.{grows_then, tried_more}
use Rattle.plain_solve.proofs.order.place_all.Goals as goal

pub loop-point-preserved : goal.loop-point-preserved
loop-point-preserved c =
    let g = c.args.graph.now in
    let last = c.args.labels.now.last_arcs.items in
    let old = c.args.arranged.now in
    let was = c.loop-point.arranged in
    let now = c.place_from_above.new.arranged in
    record {
      grows = (grows_then g last old was now c.loop-point.point c.loop-point.invariant.grows c.in_ok-place_from_above.ensures).grows;
      tried = tried_more g last old was now c.loop-point.point c.loop-point.invariant.grows c.loop-point.invariant.tried c.in_ok-place_from_above.ensures;
    }
