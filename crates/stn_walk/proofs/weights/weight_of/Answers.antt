use Rattle.std.proofs.Common.{◌<◌, length, get_or, arith}
use Rattle.std.proofs.lemmas.Int.{ints}
use Rattle.stn_model.specs.Net.{arcs_of}
use Rattle.stn_walk.proofs.Steps.{walk_ahead, walk_back, weight_ahead}
use Rattle.stn_walk.proofs.weights.weight_of.Goals as goal

pub loop-n-preserved : goal.loop-n-preserved
loop-n-preserved c =
    let ws = c.args.arcs.now in
    let i = c.loop-n.n-index in
    let arcs = arcs_of c.args.net.now in
    let a = c.arc-arc.result in
    let is = c.arc-arc.ensures.arc in
    let lt : i < length ws = omega arith in
    let there : get_or ws i 0 < length arcs = omega arith in
    let w = weight_ahead arcs ws i lt a is in
    let s = c.loop-n.invariant.sum in
    let low = c.arc-arc.ensures.within.low in
    let high = c.arc-arc.ensures.within.high in
    record {
      ahead = λ h. walk_ahead arcs ws i lt a is c.loop-n.at c.args.to.0 (c.loop-n.invariant.ahead h);
      back = λ h. c.loop-n.invariant.back (walk_back arcs ws i lt a is c.loop-n.at c.args.to.0 there c.if-arc-at.false h);
      sum = omega (arith, ints);
      low = omega (arith, ints);
      high = omega (arith, ints);
    }
