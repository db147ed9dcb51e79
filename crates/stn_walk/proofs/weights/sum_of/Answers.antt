use Rattle.std.proofs.Common.{◌<◌, length, arith}
use Rattle.std.proofs.lemmas.Int.{ints}
use Rattle.stn_walk.proofs.Steps.{weight_ahead}
use Rattle.stn_walk.proofs.weights.sum_of.Goals as goal

pub loop-n-preserved : goal.loop-n-preserved
loop-n-preserved g c =
    let lt : c.loop-n.n-index < length c.args.numbers.now = omega arith in
    let w = weight_ahead (g.A.ArcList.list c.args.arcs.now) c.args.numbers.now c.loop-n.n-index lt c.arc_at.result c.arc_at.ensures.arc in
    let low = c.arc_at.ensures.within.low in
    let high = c.arc_at.ensures.within.high in
    record { sum = omega (arith, ints); low = omega (arith, ints); high = omega (arith, ints) }
