use Rattle.std.proofs.Common.{◌≡◌, ◌≤◌, length, take, vec_capacity}
use Rattle.private_elim.proofs.back_start.points_by_place.Given as goal

abbrev pub invariant-loop-place : goal.invariant-loop-place
invariant-loop-place l = (l.points.items ≡ take l.place l.local.points) × (length l.local.points ≤ vec_capacity l.points)
