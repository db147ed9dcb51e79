use Rattle.std.proofs.Common.{◌≡◌, ℕ, ◌<◌, ◌≤◌, false, length, slice_index_or, vec_capacity}
use Rattle.private_elim.specs.Locals.{private_at}
use Rattle.private_elim.proofs.back_start.private_places.Given as goal

abbrev pub invariant-loop-place : goal.invariant-loop-place
invariant-loop-place l = record {
  len : length l.private.items ≡ l.place;
  each : (p : ℕ) → p < l.place → slice_index_or l.private.items p false ≡ private_at l.local p;
  room : length l.local.points ≤ vec_capacity l.private;
}
