use Rattle.std.proofs.Common.{◌<◌, length, arith}
use Rattle.tri_solve.proofs.PassTurns.{point_within, turn_light, turn_more, passed_whole}
use Rattle.tri_solve.proofs.passes.pass.Goals as goal

pub reached-requires-clause-within : goal.reached-requires-clause-within
reached-requires-clause-within c =
    let lt : c.loop-turn.turn < length c.args.bounds.now.order = omega (arith, c.loop-turn-test.true, c.points-turn-end.ensures.count) in
    point_within c.args.bounds.now c.points-turn-end.ensures.valid c.args.up c.loop-turn.turn c.point_at-p.result.0 lt c.point_at-p.ensures

pub reached-requires-clause-range : goal.reached-requires-clause-range
reached-requires-clause-range c =
    let lt : c.loop-turn.turn < length c.args.bounds.now.order = omega (arith, c.loop-turn-test.true, c.points-turn-end.ensures.count) in
    turn_light c.args.bounds.now c.points-turn-end.ensures.valid c.args.up c.loop-turn.turn c.point_at-p.result.0 lt c.point_at-p.ensures c.requires.few
    c.args.labels.now c.loop-turn.labels c.requires.range c.loop-turn.invariant.passing

pub bounds-labels-p : goal.bounds-labels-p
bounds-labels-p c =
    let lt : c.loop-turn.turn < length c.args.bounds.now.order = omega (arith, c.loop-turn-test.true, c.points-turn-end.ensures.count) in
    let within = point_within c.args.bounds.now c.points-turn-end.ensures.valid c.args.up c.loop-turn.turn c.point_at-p.result.0 lt c.point_at-p.ensures in
    omega (arith, c.loop-turn.invariant.passing.len, c.requires.points)

pub loop-turn-preserved : goal.loop-turn-preserved
loop-turn-preserved c =
    let lt : c.loop-turn.turn < length c.args.bounds.now.order = omega (arith, c.loop-turn-test.true, c.points-turn-end.ensures.count) in
    record {
      passing = turn_more c.args.bounds.now c.points-turn-end.ensures.valid c.args.up c.loop-turn.turn c.point_at-p.result.0 lt c.point_at-p.ensures
          c.args.labels.now c.loop-turn.labels c.requires.points c.loop-turn.invariant.passing c.reached.result c.reached.ensures.number c.reached.ensures.via;
    }

pub returns : goal.returns
returns c =
    passed_whole c.args.bounds.now c.args.up c.args.labels.now c.loop-turn.labels c.loop-turn.turn (omega (arith, c.loop-turn-test.false, c.points-turn-end.ensures.count))
    c.loop-turn.invariant.passing
