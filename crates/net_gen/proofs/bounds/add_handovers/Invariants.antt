use Rattle.std.proofs.Common.{◌≡◌, ◌++◌}
use Rattle.std.specs.List.{flat_map, range_with_len}
use Rattle.net_gen.specs.Generated.{draws_before, handover_at}
use Rattle.net_gen.proofs.bounds.add_handovers.Given as goal

abbrev pub invariant-loop-handover : goal.invariant-loop-handover
invariant-loop-handover l = record {
  net : l.net ≡ record l.initial.net { given = l.initial.net.given ++ flat_map (handover_at l.initial.draws.number l.size) (range_with_len 0 l.handover) };
  draws : l.draws ≡ record l.initial.draws { count = draws_before l.size l.handover };
}
