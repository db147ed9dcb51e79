-- The places that are left and joined with one that is taken: AreMet.
use Rattle.std.specs.Prelude.{◌≡◌, ◌↔◌, ℕ, ◌<◌, List, true, length}
use Rattle.stn_walk.specs.Eliminations.{is_in}
use Rattle.elim_step.specs.Eliminated.{point_at}
use Rattle.private_elim.specs.Locals.{LocalView}
use Rattle.private_elim.specs.Picked.{IsNeighbour, IsDegree}

-- the places of the neighbours of the point at a place, as many as its degree
pub record AreMet (v : LocalView) (taken : List ℕ) (place : ℕ) (met : List ℕ) : Type 0 where
  pub within : (p : ℕ) → is_in met p ≡ true → p < length v.points
  pub each : (p : ℕ) → p < length v.points → is_in met p ≡ true ↔ IsNeighbour v taken (point_at v.points place) (point_at v.points p)
  pub many : IsDegree v taken (point_at v.points place) (length met)
