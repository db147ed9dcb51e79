use Rattle.stn_model.specs.Net.{arcs_of, point_count}
use Rattle.conflict_cycle.proofs.Gaps.{pruned_least}
use Rattle.conflict_cycle.proofs.edges.edge_walk.Goals as goal

pub returns-clause-least : goal.returns-clause-least
returns-clause-least c =
    let net = c.args.net.now in
    pruned_least (point_count net) (arcs_of net) c.args.i.0 c.args.j.0 c.in_ok-least.least c.in_ok-simple.simple c.in_ok-least.ensures.least
    c.in_ok-simple.ensures.walk c.in_ok-simple.ensures.weight
