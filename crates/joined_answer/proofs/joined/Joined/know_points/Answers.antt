use Rattle.std.proofs.Common.{subst, sym}
use Rattle.conflict_cycle.proofs.PartBounds.{held_by}
use Rattle.joined_answer.specs.Points.{ArePointsOf}
use Rattle.joined_answer.proofs.OrderPoints.{points_of_order}
use Rattle.joined_answer.proofs.joined.Joined.know_points.Goals as goal

pub returns-clause-points : goal.returns-clause-points
returns-clause-points c =
    let s = c.self.inside in
    let known = c.self.invariant.1 in
    let held = held_by s.parts c.shared-shared.result.now c.shared-shared.ensures.shared c.interface-face.ensures.together in
    rw (← c.self.view_is)
    (subst (ArePointsOf s.network) (sym known.laid) (points_of_order s.parts c.shared-shared.ensures.known held s.network known.belongs))
