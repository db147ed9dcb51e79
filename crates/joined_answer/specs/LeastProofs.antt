-- What shows a least bound: IsProof.
use Rattle.std.specs.Prelude.{◌≡◌, ℕ, ◌<◌, ℤ, ◌-ℤ◌, List}
use Rattle.stn_model.specs.Net.{Net, arcs_of, point_count}
use Rattle.stn_model.specs.Schedules.{Satisfies, IsLeastBound, time_at}
use Rattle.stn_model.specs.Walks.{IsWalk, weight, PassesNoPointTwice}

-- the bound from i to j is least; a walk of the network has this weight and passes no point twice; and a schedule that satisfies the network has j so
-- long after i. The schedule has every point p as long after i as its least bound from i: its time is d(i, p) - d(i, z), since z has time 0
pub record IsProof (net : Net) (i j : ℕ) (bound : ℤ) (walk : List ℕ) (times : List ℤ) : Type 0 where
  pub least : IsLeastBound (point_count net) (arcs_of net) i j bound
  pub goes : IsWalk (arcs_of net) i j walk
  pub weighs : weight (arcs_of net) walk ≡ bound
  pub once : PassesNoPointTwice (arcs_of net) i j walk
  pub satisfies : Satisfies (point_count net) (arcs_of net) times
  pub attains : time_at times j -ℤ time_at times i ≡ bound
  pub each : (p : ℕ) → p < point_count net → IsLeastBound (point_count net) (arcs_of net) i p (time_at times p -ℤ time_at times i)
