-- Least walks from one point, as `plain_from` answers them.
use Rattle.std.specs.Prelude.{◌≡◌, ◌≢◌, ℕ, ◌<◌, ℤ, ◌+ℤ◌, List, length, slice_index, slice_index_or, ◌⊎◌}
use Rattle.stn_model.specs.declared.ids.PointId.{PointId}
use Rattle.stn_model.specs.Net.{Net, arcs_of, point_count}
use Rattle.stn_model.specs.Arcs.{from_at, to_at, bound_at}
use Rattle.stn_model.specs.Schedules.{IsLeastBound, time_at}

-- what contracts see of a `FromPoint`: an order of the other points, and for each point a last arc and a distance
pub record LeastWalks : Type 0 where
  pub source : ℕ
  pub order : List PointId
  pub last_arcs : List ℕ
  pub distances : List ℤ

-- the point at that place of the order
abbrev pub point_at : List PointId → ℕ → ℕ
point_at order k = (slice_index_or order k (record { 0 = 0 })).0

-- one last arc and one distance for each point; the source's last arc means nothing
pub record HasOneEach (points : ℕ) (t : LeastWalks) : Type 0 where
  pub last_arcs : length t.last_arcs ≡ points
  pub distances : length t.distances ≡ points

-- the order lists each point other than the source once, and nothing else
pub record ListsOthersOnce (points source : ℕ) (order : List PointId) : Type 0 where
  pub others : (k : ℕ) → k < length order → (point_at order k < points) × (point_at order k ≢ source)
  pub once : (j k : ℕ) → j < k → k < length order → point_at order j ≢ point_at order k
  pub each : (p : ℕ) → p < points → p ≢ source → (k : ℕ) × (k < length order) × (point_at order k ≡ p)

-- the point is the source, or stands before that place of the order
abbrev pub IsBefore : ℕ → List PointId → ℕ → ℕ → Type 0
IsBefore source order k p = (p ≡ source) ⊎ ((j : ℕ) × (j < k) × (point_at order j ≡ p))

-- the last arc of each point other than the source is an arc of the network that ends there
abbrev pub EndsThere : Net → LeastWalks → Type 0
EndsThere net t = (p : ℕ) → p < point_count net → p ≢ t.source
    → (slice_index t.last_arcs p < length (arcs_of net)) × (to_at (arcs_of net) (slice_index t.last_arcs p) ≡ p)

-- the last arc of the point at each place of the order starts at the source or at an earlier point
abbrev pub StartsBefore : Net → LeastWalks → Type 0
StartsBefore net t = (k : ℕ) → k < length t.order
    → IsBefore t.source t.order k (from_at (arcs_of net) (slice_index t.last_arcs (point_at t.order k)))

-- the distance of each point other than the source is that of its last arc's start plus the arc's bound
abbrev pub IsTight : Net → LeastWalks → Type 0
IsTight net t = (p : ℕ) → p < point_count net → p ≢ t.source
    → time_at t.distances p ≡ time_at t.distances (from_at (arcs_of net) (slice_index t.last_arcs p)) +ℤ bound_at (arcs_of net) (slice_index t.last_arcs p)

-- each distance is the least bound from the source; so the source's is 0
abbrev pub IsLeast : Net → LeastWalks → Type 0
IsLeast net t = (p : ℕ) → p < point_count net → IsLeastBound (point_count net) (arcs_of net) t.source p (time_at t.distances p)
