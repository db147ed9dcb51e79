use Rattle.std.proofs.Common.{◌≡◌, map, take}
use Rattle.stn_model.specs.declared.ids.PointId.{PointId}
use Rattle.stn_walk.specs.Eliminations.{is_in}
use Rattle.reduction_tests.proofs.asked.is_listed.Given as goal

abbrev pub invariant-loop-p : goal.invariant-loop-p
invariant-loop-p l = l.listed ≡ is_in (map (λ (p : PointId). p.0) (take l.p-index l.points)) l.point.0
