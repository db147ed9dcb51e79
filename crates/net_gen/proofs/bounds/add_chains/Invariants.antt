use Rattle.std.proofs.Common.{◌≡◌, ◌+◌, ◌*◌, ◌++◌}
use Rattle.std.specs.List.{flat_map, range_with_len}
use Rattle.net_gen.specs.Generated.{point_total, chain_at}
use Rattle.net_gen.proofs.bounds.add_chains.Given as goal

abbrev pub invariant-loop-gap : goal.invariant-loop-gap
invariant-loop-gap l = record {
  net : l.net ≡ record l.initial.net { given = l.initial.net.given ++ flat_map (chain_at l.initial.draws.number l.size) (range_with_len 0 l.gap) };
  draws : l.draws ≡ record l.initial.draws { count = point_total l.size + 2 * l.gap };
}
