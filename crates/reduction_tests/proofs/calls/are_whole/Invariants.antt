use Rattle.std.proofs.Common.{◌≡◌, ℕ, ◌<◌, map, true}
use Rattle.stn_model.specs.declared.ids.PointId.{PointId}
use Rattle.stn_walk.specs.Eliminations.{is_in}
use Rattle.elim_step.specs.Eliminated.{point_at}
use Rattle.private_elim.specs.Locals.{private_at}
use Rattle.reduction_tests.proofs.calls.are_whole.Given as goal

abbrev pub invariant-loop-place : goal.invariant-loop-place
invariant-loop-place l = (k : ℕ) → k < l.place → private_at l.local k ≡ true → is_in (map (λ (p : PointId). p.0) l.order) (point_at l.local.points k) ≡ true
