-- Points put in order, each after the point that its last arc leads to.
use Rattle.std.specs.Prelude.{◌≡◌, ◌≢◌, ℕ, ◌+◌, ◌-◌, ◌<◌, ◌≤◌, List, length, slice_index, ◌⊎◌}
use Rattle.std.specs.List.{sum_by}
use Rattle.stn_model.specs.declared.ids.PointId.{PointId}
use Rattle.stn_model.specs.Arcs.{to_at}
use Rattle.plain_solve.specs.declared.graph.Graph.{Graph}
use Rattle.plain_solve.specs.declared.order.Arranged.{Arranged}
use Rattle.plain_solve.specs.LeastWalks.{point_at, IsBefore, ListsOthersOnce}

-- where the last arc of a point leads to
abbrev pub parent : Graph → List ℕ → ℕ → ℕ
parent g last_arcs p = to_at g.arcs.items (slice_index last_arcs p)

-- the points in order so far: places count from 1, and 0 says that a point has none
pub record IsOrder (g : Graph) (last_arcs : List ℕ) (order : List PointId) (places : List ℕ) : Type 0 where
  pub marks : length places ≡ g.points
  pub root : slice_index places g.root ≡ 0
  pub listed : (k : ℕ) → k < length order → (point_at order k < g.points) × (slice_index places (point_at order k) ≡ k + 1)
  pub placed : (p : ℕ) → p < g.points → 0 < slice_index places p → (slice_index places p ≤ length order) × (point_at order (slice_index places p - 1) ≡ p)
  pub after : (k : ℕ) → k < length order → IsBefore g.root order k (parent g last_arcs (point_at order k))
  pub few : length order + sum_by (λ c. 1 - c) places ≡ g.points

abbrev pub IsInOrder : Graph → List ℕ → Arranged → Type 0
IsInOrder g last_arcs a = IsOrder g last_arcs a.order.items a.places.items

-- a point without a place, whose last arc leads to a point without a place
abbrev pub IsTried : Graph → List ℕ → List ℕ → ℕ → Type 0
IsTried g last_arcs places p =
    p < g.points → p ≢ g.root → slice_index places p ≡ 0 → (parent g last_arcs p ≢ g.root) × (slice_index places (parent g last_arcs p) ≡ 0)

-- points were only added; where none was, nothing changed
pub record Grows (g : Graph) (last_arcs : List ℕ) (old new : Arranged) : Type 0 where
  pub order : IsInOrder g last_arcs new
  pub more : length old.order.items ≤ length new.order.items
  pub same : length old.order.items ≡ length new.order.items → new.places.items ≡ old.places.items

-- the same, and where no point was added that point was tried
pub record GrowsBy (g : Graph) (last_arcs : List ℕ) (p : ℕ) (old new : Arranged) : Type 0 where
  pub grows : Grows g last_arcs old new
  pub tried : length old.order.items ≡ length new.order.items → IsTried g last_arcs new.places.items p

-- every other point in an order that follows the last arcs
pub record IsArranged (g : Graph) (last_arcs : List ℕ) (order : List PointId) : Type 0 where
  pub others : ListsOthersOnce g.points g.root order
  pub after : (k : ℕ) → k < length order → IsBefore g.root order k (parent g last_arcs (point_at order k))
