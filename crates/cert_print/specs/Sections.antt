-- What a section is made from, the distances that it has told after some of its lines, and which section is due.
use Rattle.std.specs.Prelude.{◌≡◌, ◌≢◌, ℕ, zero, suc, ◌+◌, ◌<◌, true, nat_lt, List, [], ◌∷◌, length, set, Some, if◌then◌else◌}
use Rattle.stn_model.specs.Net.{Net, point_count}
use Rattle.stn_model.specs.Schedules.{time_at}
use Rattle.plain_solve.specs.LeastWalks.{LeastWalks, point_at, HasOneEach, ListsOthersOnce, EndsThere, StartsBefore, IsTight, IsLeast}
use Rattle.cert_check.specs.declared.stage.Stage.{Stage}
use Rattle.cert_check.specs.declared.stage.Stage.TheVariants as stage
use Rattle.cert_check.specs.Rows.{Row, first_row}

-- the order lists points that have a distance, and not the source
abbrev pub ListsWithin : LeastWalks → Type 0
ListsWithin t = (k : ℕ) → k < length t.order → (point_at t.order k < length t.distances) × (point_at t.order k ≢ t.source)

-- least walks from a point of the network, in an order that a section may tell
pub record AreLeast (net : Net) (t : LeastWalks) : Type 0 where
  pub within : t.source < point_count net
  pub sizes : HasOneEach (point_count net) t
  pub order : ListsOthersOnce (point_count net) t.source t.order
  pub ends : EndsThere net t
  pub starts : StartsBefore net t
  pub tight : IsTight net t
  pub least : IsLeast net t

-- the distances of the source and of the first points of the order
abbrev pub row_of : ℕ → LeastWalks → ℕ → Row
row_of points t zero = first_row points t.source
row_of points t (suc k) = set (row_of points t k) (point_at t.order k) (Some (time_at t.distances (point_at t.order k)))

-- the section of that point is due, or, past the last point, the end
abbrev pub due : Net → ℕ → Stage
due net i = if nat_lt i (point_count net) then stage.FromDue i else stage.EndDue true

-- least walks from each of the points from i up to j, j left out
abbrev pub AreFrom : Net → ℕ → ℕ → List LeastWalks → Type 0
AreFrom net i j [] = i ≡ j
AreFrom net i j (t ∷ ts) = (t.source ≡ i) × AreLeast net t × AreFrom net (i + 1) j ts
