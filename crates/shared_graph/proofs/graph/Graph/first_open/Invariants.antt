use Rattle.std.proofs.Common.{◌≡◌, not, map, drop}
use Rattle.stn_model.specs.declared.ids.PointId.{PointId}
use Rattle.stn_walk.specs.Eliminations.{is_in}
use Rattle.shared_graph.specs.Interfaces.{points_of}
use Rattle.shared_graph.specs.Weights.{first_passing}
use Rattle.shared_graph.proofs.graph.Graph.first_open.Given as goal

-- the first is one of the points that are left
abbrev pub invariant-loop-point : goal.invariant-loop-point
invariant-loop-point g l =
    first_passing (λ p. not (is_in l.self.state.order p)) (points_of l.self.face)
    ≡ first_passing (λ p. not (is_in l.self.state.order p)) (map (λ (p : PointId). p.0) (drop l.point-index l.point-items))
