use Rattle.std.proofs.Common.{◌+◌, ◌∙◌, ap, length, arith}
use Rattle.std.proofs.lemmas.List.FromFn.{length-map-range_with_len}
use Rattle.net_gen.specs.Draws.{DrawState}
use Rattle.net_gen.specs.Generated.{time_of}
use Rattle.net_gen.proofs.Places.{AreTimes-from_range, times_more}
use Rattle.net_gen.proofs.generator.draw_times.Goals as goal

pub draw-requires-clause-room : goal.draw-requires-clause-room
draw-requires-clause-room c =
    let at = ap (λ (s : DrawState). s.count) c.loop-place.invariant.draws in
    omega arith

pub loop-place-preserved : goal.loop-place-preserved
loop-place-preserved c = record {
  times = times_more c.args.draws.now c.loop-place.draws c.loop-place._place c.draw.result
      c.loop-place.times.items c.push.new.self.items c.loop-place.invariant.times c.loop-place.invariant.draws
      c.draw.ensures.drawn c.in_ok-push.ensures.items;
  draws = c.draw.ensures.counted ∙ ap (λ (s : DrawState). record s { count = s.count + 1 }) c.loop-place.invariant.draws;
}

pub returns-clause-times : goal.returns-clause-times
returns-clause-times c =
    AreTimes-from_range c.args.draws.now.number c.loop-place._place c.loop-place.times.items c.loop-place.invariant.times

pub returns-clause-many : goal.returns-clause-many
returns-clause-many c =
    let many = ap length c.loop-place.invariant.times ∙ length-map-range_with_len (time_of c.args.draws.now.number) 0 c.loop-place._place in
    omega arith
