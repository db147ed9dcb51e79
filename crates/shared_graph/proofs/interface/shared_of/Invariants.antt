use Rattle.std.proofs.Common.{◌≡◌, ◌<◌, ◌-◌, map, length}
use Rattle.shared_graph.specs.Interfaces.{shared_points}
use Rattle.shared_graph.specs.Views.{listed_from}
use Rattle.shared_graph.proofs.interface.shared_of.Given as goal

abbrev pub invariant-loop-p : goal.invariant-loop-p
invariant-loop-p l =
    (0 < l.p)
    × (length l.owners.items ≡ l.p)
    × (listed_from 0 l.owners.items ≡ shared_points l.net (l.p - 1))
    × (map (λ p. p.0) l.points.items ≡ map (λ q. q.point) (shared_points l.net (l.p - 1)))
