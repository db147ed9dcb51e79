-- Distances from a point, and paths that have them (shortest path trees): Tree, dist_of, via_of, times_of, last_edge, IsTree, AreEdges, AreLeastFrom,
-- StartsAt, EndsAt, GoesAlong, HasPath, IsBack.
use Rattle.std.specs.Prelude.{◌≡◌, ◌≢◌, ℕ, ◌+◌, ◌<◌, ◌≤◌, ◌*◌, reverse, ℤ, pos, ◌-ℤ◌, List, [], ◌∷◌, map, length, slice_index_or, slice_index, Contains}
use Rattle.stn_model.specs.Limits.{greatest_walk, most_points}
use Rattle.stn_model.specs.Net.{Net, point_count, arcs_of}
use Rattle.stn_model.specs.Schedules.{IsLeastBound}
use Rattle.tri_solve.specs.declared.edge.Edge.{Edge}
use Rattle.tri_solve.specs.Passes.{IsLight}

-- distances from a source by the numbers of the points, and of each point the one before it on its path; the source has itself
pub record Tree : Type 0 where
  pub source : ℕ
  pub dists : List ℤ
  pub vias : List ℕ

-- the distance of a point
abbrev pub dist_of : Tree → ℕ → ℤ
dist_of t p = slice_index_or t.dists p (pos 0)

-- the point before it
abbrev pub via_of : Tree → ℕ → ℕ
via_of t p = slice_index t.vias p

-- the distances less that of z
abbrev pub times_of : Tree → List ℤ
times_of t = map (λ d. d -ℤ dist_of t 0) t.dists

-- the edge that the path of a point ends with
abbrev pub last_edge : Tree → ℕ → Edge
last_edge t p = record { from = record { 0 = via_of t p }; to = record { 0 = p }; bound = dist_of t p -ℤ dist_of t (via_of t p) }

-- the source has distance 0, and the points before a point end at the source: each is less deep than the one after it
pub record IsTree (t : Tree) : Type 0 where
  pub source_in : t.source < length t.dists
  pub zero : dist_of t t.source ≡ pos 0
  pub many : length t.vias ≡ length t.dists
  pub vias_in : (p : ℕ) → p < length t.dists → via_of t p < length t.dists
  pub depth : ℕ → ℕ
  pub falls : (p : ℕ) → p < length t.dists → p ≢ t.source → depth (via_of t p) < depth p
  pub shallow : (p : ℕ) → p < length t.dists → depth p ≤ 2 * length t.dists
  pub range : (p : ℕ) → p < length t.dists → IsLight (2 * (greatest_walk * most_points)) (dist_of t p)

-- each point but the source is reached over one of these edges
abbrev pub AreEdges : List Edge → Tree → Type 0
AreEdges edges t = (p : ℕ) → p < length t.dists → p ≢ t.source → Contains edges (last_edge t p)

-- the distances are the least bounds from the source in the network
pub record AreLeastFrom (net : Net) (t : Tree) : Type 0 where
  pub one_each : length t.dists ≡ point_count net
  pub least : (p : ℕ) → p < point_count net → IsLeastBound (point_count net) (arcs_of net) t.source p (dist_of t p)

-- the first point of a path
abbrev pub StartsAt : ℕ → List ℕ → Type 0
StartsAt i [] = ⊥
StartsAt i (p ∷ ps) = p ≡ i

-- the last one
abbrev pub EndsAt : ℕ → List ℕ → Type 0
EndsAt j [] = ⊥
EndsAt j (p ∷ []) = p ≡ j
EndsAt j (p ∷ q ∷ ps) = EndsAt j (q ∷ ps)

-- each two points that follow one another are an edge, and the bounds of these edges add up to d
abbrev pub GoesAlong : List Edge → List ℕ → ℤ → Type 0
GoesAlong edges [] d = d ≡ pos 0
GoesAlong edges (p ∷ []) d = d ≡ pos 0
GoesAlong edges (p ∷ q ∷ ps) d =
    (b : ℤ) × Contains edges (record { from = record { 0 = p }; to = record { 0 = q }; bound = b }) × GoesAlong edges (q ∷ ps) (d -ℤ b)

-- a path from i to j along the edges, whose bounds add up to d
pub record HasPath (edges : List Edge) (i j : ℕ) (d : ℤ) : Type 0 where
  pub path : List ℕ
  pub starts : StartsAt i path
  pub ends : EndsAt j path
  pub goes : GoesAlong edges path d

-- a walk back from p that has passed these points, p first, and is at a point from which they lead on to p
pub record IsBack (t : Tree) (p at : ℕ) (back : List ℕ) : Type 0 where
  pub tree : IsTree t
  pub within : at < length t.dists
  pub ends : EndsAt p (at ∷ reverse back)
  pub goes : (edges : List Edge) → AreEdges edges t → GoesAlong edges (at ∷ reverse back) (dist_of t p -ℤ dist_of t at)
  pub low : tree.depth at + length back ≤ 2 * length t.dists
  pub alone : p ≡ t.source → back ≡ []
