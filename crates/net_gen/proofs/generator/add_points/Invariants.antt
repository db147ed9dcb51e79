use Rattle.std.proofs.Common.{◌≡◌, map}
use Rattle.std.specs.List.{range_with_len}
use Rattle.net_gen.specs.Generated.{place_at}
use Rattle.net_gen.proofs.generator.add_points.Given as goal

abbrev pub invariant-loop-place : goal.invariant-loop-place
invariant-loop-place l = l.net ≡ record l.initial.net { places = map (place_at l.fn.size) (range_with_len 0 l.place) }
