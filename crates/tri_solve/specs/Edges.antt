-- Least bounds of the joined pairs of an order, as a list of edges: Bounds, ids, no_edge, edge_at, edge_between, is_edge, bound_between, AreBounds,
-- AreBoundsOf.
use Rattle.std.specs.Prelude.{◌≡◌, ◌≢◌, ◌↔◌, ◌++◌, ℕ, ◌<◌, Bool, ℤ, pos, ◌==◌, ◌&&◌, List, [], ◌∷◌, map, length, slice_index_or, Option, Some, None, Contains, if◌then◌else◌}
use Rattle.std.specs.Option.{is_some, unwrap_or}
use Rattle.stn_model.specs.Limits.{greatest_walk}
use Rattle.stn_model.specs.declared.ids.PointId.{PointId}
use Rattle.stn_model.specs.Walks.{AllDifferent}
use Rattle.stn_model.specs.Joined.{IsJoined}
use Rattle.stn_model.specs.Schedules.{IsLeastBound}
use Rattle.stn_model.specs.Net.{Net, point_count, arcs_of}
use Rattle.tri_solve.specs.declared.edge.Edge.{Edge}
use Rattle.tri_solve.specs.Passes.{IsLight}

-- an order of points, and bounds between them
pub record Bounds : Type 0 where
  pub order : List ℕ
  pub edges : List Edge

-- the numbers of points
abbrev pub ids : List PointId → List ℕ
ids ps = map (λ p. p.0) ps

-- what stands past the end of the edges
abbrev pub no_edge : Edge
no_edge = record { from = record { 0 = 0 }; to = record { 0 = 0 }; bound = pos 0 }

-- the edge of that number
abbrev pub edge_at : List Edge → ℕ → Edge
edge_at edges e = slice_index_or edges e no_edge

-- the bound of the first edge from i to j
abbrev pub edge_between : List Edge → ℕ → ℕ → Option ℤ
edge_between [] i j = None
edge_between (e ∷ edges) i j = if (e.from.0 == i) && (e.to.0 == j) then Some e.bound else edge_between edges i j

-- whether an edge leads from i to j
abbrev pub is_edge : List Edge → ℕ → ℕ → Bool
is_edge edges i j = is_some (edge_between edges i j)

-- its bound
abbrev pub bound_between : List Edge → ℕ → ℕ → ℤ
bound_between edges i j = unwrap_or (edge_between edges i j) (pos 0)

-- the order has each point below its length once, with z last; the edges lead between different points of it, no two of them between the same two in the
-- same direction, and their bounds have magnitude at most 2^53
pub record AreBounds (b : Bounds) : Type 0 where
  pub once : AllDifferent b.order
  pub points : (p : ℕ) → (p < length b.order) ↔ Contains b.order p
  pub last : (rest : List ℕ) × (b.order ≡ rest ++ 0 ∷ [])
  pub from_in : (e : Edge) → Contains b.edges e → e.from.0 < length b.order
  pub to_in : (e : Edge) → Contains b.edges e → e.to.0 < length b.order
  pub apart : (e : Edge) → Contains b.edges e → e.from.0 ≢ e.to.0
  pub single : (e f : Edge) → Contains b.edges e → Contains b.edges f → e.from.0 ≡ f.from.0 → e.to.0 ≡ f.to.0 → e ≡ f
  pub range : (e : Edge) → Contains b.edges e → IsLight greatest_walk e.bound

-- the edges are the joined pairs of the network for the order, in both directions, and each bound is least
pub record AreBoundsOf (net : Net) (b : Bounds) : Type 0 where
  pub points : length b.order ≡ point_count net
  pub joined : (i j : ℕ) → ((e : Edge) × Contains b.edges e × (e.from.0 ≡ i) × (e.to.0 ≡ j)) ↔ IsJoined (arcs_of net) b.order i j
  pub least : (e : Edge) → Contains b.edges e → IsLeastBound (point_count net) (arcs_of net) e.from.0 e.to.0 e.bound
