use Rattle.plain_solve.proofs.OrderLemmas.{grows_then}
use Rattle.plain_solve.proofs.order.place_path.Goals as goal

pub loop-k-preserved : goal.loop-k-preserved
loop-k-preserved c =
    (grows_then c.args.graph.now c.args.labels.now.last_arcs.items c.args.arranged.now c.loop-k.arranged c.place.new.arranged _ c.loop-k.invariant c.in_ok-place.ensures).grows
