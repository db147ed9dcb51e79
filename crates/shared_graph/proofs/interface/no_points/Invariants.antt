use Rattle.std.proofs.Common.{◌≡◌, map, replicate, []}
use Rattle.shared_graph.proofs.interface.no_points.Given as goal

abbrev pub invariant-loop : goal.invariant-loop
invariant-loop l = map (λ x. x.items) l.own.items ≡ replicate l.counter []
