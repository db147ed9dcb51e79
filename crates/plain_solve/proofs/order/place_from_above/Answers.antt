use Rattle.plain_solve.proofs.OrderLemmas.{grows_then}
use Rattle.plain_solve.proofs.order.place_from_above.Goals as goal

pub returns : goal.returns
returns c =
    grows_then c.args.graph.now c.args.labels.now.last_arcs.items c.args.arranged.now c.place_path.new.arranged c.place.new.arranged c.args.point c.in_ok-place_path.ensures c.in_ok-place.ensures
