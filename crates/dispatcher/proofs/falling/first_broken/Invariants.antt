use Rattle.std.proofs.Common.{ℕ, ◌<◌, ◌≤ℤ◌, ◌-ℤ◌}
use Rattle.stn_model.specs.Arcs.{from_at, to_at, bound_at}
use Rattle.stn_model.specs.Schedules.{time_at}
use Rattle.dispatcher.proofs.falling.first_broken.Given as goal

abbrev pub invariant-loop-n : goal.invariant-loop-n
invariant-loop-n l =
    (k : ℕ) → k < l.n → (time_at l.labels.items (to_at l.arcs k) -ℤ time_at l.labels.items (from_at l.arcs k)) ≤ℤ bound_at l.arcs k
