-- Orders of points, and which points they join (fill by paths: Rose, Tarjan and Lueker 1976): HasEdge, IsPath, ComesBefore, IsJoined,
-- joined_order, IsLaterNeighbour.
use Rattle.std.specs.Prelude.{◌++◌, ◌≡◌, ◌≢◌, ℕ, ◌<◌, List, [], ◌∷◌, nat_eq, ◌⊎◌, Contains}
use Rattle.std.specs.List.{AllByRecursion, position_or_len}
use Rattle.stn_model.specs.declared.ids.Constraint.{Constraint}

-- some arc has these ends, in one direction or the other
abbrev pub HasEdge : List Constraint → ℕ → ℕ → Type 0
HasEdge arcs i j =
    (a : Constraint) × Contains arcs a × (((a.from.0 ≡ i) × (a.to.0 ≡ j)) ⊎ ((a.from.0 ≡ j) × (a.to.0 ≡ i)))

-- a path from i to j without direction, by its inner points
abbrev pub IsPath : List Constraint → ℕ → ℕ → List ℕ → Type 0
IsPath arcs i j [] = HasEdge arcs i j
IsPath arcs i j (p ∷ ps) = HasEdge arcs i p × IsPath arcs p j ps

-- the joined order: the private points of each agent in turn, then the shared points, then z
abbrev pub joined_order : List (List ℕ) → List ℕ → List ℕ
joined_order [] shared = shared ++ 0 ∷ []
joined_order (ps ∷ privates) shared = ps ++ joined_order privates shared

-- p comes before q in the order; what the order lacks comes after all of it
abbrev pub ComesBefore : List ℕ → ℕ → ℕ → Type 0
ComesBefore order p q = position_or_len (nat_eq p) order < position_or_len (nat_eq q) order

-- two different points with a path between them whose inner points come before both
pub record IsJoined (arcs : List Constraint) (order : List ℕ) (i j : ℕ) : Type 0 where
  pub different : i ≢ j
  pub inner : List ℕ
  pub path : IsPath arcs i j inner
  pub before : AllByRecursion (λ p. ComesBefore order p i × ComesBefore order p j) inner

-- a point joined with i that comes later
pub record IsLaterNeighbour (arcs : List Constraint) (order : List ℕ) (i j : ℕ) : Type 0 where
  pub joined : IsJoined arcs order i j
  pub later : ComesBefore order i j
