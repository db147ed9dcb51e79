-- Networks with one given arc loosened (upper bounds between points: Dechter, Meiri and Pearl 1991): loosened, without, IsLeastEnough.
use Rattle.std.specs.Prelude.{◌↔◌, ℕ, ℤ, ◌+ℤ◌, ◌≤ℤ◌}
use Rattle.stn_model.specs.Arcs.{bound_at}
use Rattle.stn_model.specs.Net.{Net, arcs_of, point_count, with_bound}
use Rattle.stn_model.specs.Schedules.{IsConsistent}

-- the network with the bound of that given arc raised by so much
abbrev pub loosened : Net → ℕ → ℤ → Net
loosened net n by = with_bound net n (bound_at (arcs_of net) n +ℤ by)

-- the network in which that given arc forbids nothing: its bound is the horizon, which the arcs of its ends with z imply
abbrev pub without : Net → ℕ → Net
without net n = with_bound net n net.horizon

-- some schedule satisfies the network exactly where that given arc has this bound or a greater one
abbrev pub IsLeastEnough : Net → ℕ → ℤ → Type 0
IsLeastEnough net n enough = (b : ℤ) → (enough ≤ℤ b) ↔ IsConsistent (point_count net) (arcs_of (with_bound net n b))
