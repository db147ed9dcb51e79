use Rattle.std.proofs.Common.{◌≡◌, map}
use Rattle.std.specs.List.{range_with_len}
use Rattle.net_gen.specs.Generated.{time_of}
use Rattle.net_gen.proofs.generator.draw_times.Given as goal

abbrev pub invariant-loop-place : goal.invariant-loop-place
invariant-loop-place l = record {
  times : l.times.items ≡ map (time_of l.initial.draws.number) (range_with_len 0 l._place);
  draws : l.draws ≡ record l.initial.draws { count = l._place };
}
