use Rattle.std.proofs.Common.{◌≡◌, ◌∷◌, map, take}
use Rattle.shared_graph.proofs.publish.points_by_place.Given as goal

abbrev pub invariant-loop-point : goal.invariant-loop-point
invariant-loop-point l = l.points.items ≡ 0 ∷ map (λ p. p.0) (take l.point-index l.shared)
