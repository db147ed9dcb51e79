-- The least bounds of all pairs of points that an order joins, as a list: IsFirst, HasEdge, AreLeastBounds, IsPassed,
-- AreBoundsTo, GoesOverLeast.
use Rattle.std.specs.Prelude.{◌≡◌, ◌⊎◌, ◌↔◌, ℕ, ◌<◌, List, Contains}
use Rattle.std.specs.List.{AllPairs}
use Rattle.stn_model.specs.Joined.{IsJoined}
use Rattle.stn_model.specs.Net.{Net, arcs_of, point_count}
use Rattle.stn_model.specs.Schedules.{IsLeastBound}
use Rattle.tri_solve.specs.declared.edge.Edge.{Edge}
use Rattle.tri_solve.specs.Trees.{Tree, AreEdges}

-- e comes before f, by the number of its first point, and where that is the same, by the number of its second
abbrev pub IsFirst : Edge → Edge → Type 0
IsFirst e f = (e.from.0 < f.from.0) ⊎ ((e.from.0 ≡ f.from.0) × (e.to.0 < f.to.0))

-- some edge of the list leads from i to j
abbrev pub HasEdge : List Edge → ℕ → ℕ → Type 0
HasEdge edges i j = (e : Edge) × Contains edges e × (e.from.0 ≡ i) × (e.to.0 ≡ j)

-- the edges are exactly the pairs that the order joins over the arcs of the network, each once, by rising number of the first point and then of the
-- second, and each bound is least
pub record AreLeastBounds (net : Net) (order : List ℕ) (edges : List Edge) : Type 0 where
  pub rising : AllPairs IsFirst edges
  pub joined : (i j : ℕ) → HasEdge edges i j ↔ IsJoined (arcs_of net) order i j
  pub least : (e : Edge) → Contains edges e → IsLeastBound (point_count net) (arcs_of net) e.from.0 e.to.0 e.bound

-- the pairs before (n, m): those of a point below n, and of point n those with a point below m
abbrev pub IsPassed : ℕ → ℕ → ℕ → ℕ → Type 0
IsPassed n m i j = (i < n) ⊎ ((i ≡ n) × (j < m))

-- the least bounds of the joined pairs before (n, m)
pub record AreBoundsTo (net : Net) (order : List ℕ) (n m : ℕ) (edges : List Edge) : Type 0 where
  pub rising : AllPairs IsFirst edges
  pub passed : (e : Edge) → Contains edges e → IsPassed n m e.from.0 e.to.0
  pub joined : (e : Edge) → Contains edges e → IsJoined (arcs_of net) order e.from.0 e.to.0
  pub there : (i j : ℕ) → IsPassed n m i j → IsJoined (arcs_of net) order i j → HasEdge edges i j
  pub least : (e : Edge) → Contains edges e → IsLeastBound (point_count net) (arcs_of net) e.from.0 e.to.0 e.bound

-- the paths of the distances go over such bounds
pub record GoesOverLeast (net : Net) (order : List ℕ) (distances : Tree) : Type 0 where
  pub edges : List Edge
  pub bounds : AreLeastBounds net order edges
  pub over : AreEdges edges distances
