-- Which points are joined once others are eliminated (fill: Rose, Tarjan and Lueker 1976): has_edge, joined_of, HasPath, JoinedByElimination.
use Rattle.std.specs.Prelude.{◌≡◌, ◌≢◌, ◌↔◌, ℕ, Bool, true, ◌&&◌, ◌||◌, ◌==◌, List, [], ◌∷◌, reverse}
use Rattle.std.specs.List.{AllByRecursion, list_any}
use Rattle.stn_model.specs.declared.ids.Constraint.{Constraint}
use Rattle.stn_model.specs.Joined.{IsPath, IsJoined}
use Rattle.stn_walk.specs.Eliminations.{before_both}

-- whether some arc has these ends, in one direction or the other
abbrev pub has_edge : List Constraint → ℕ → ℕ → Bool
has_edge arcs i j = list_any (λ a. ((a.from.0 == i) && (a.to.0 == j)) || ((a.from.0 == j) && (a.to.0 == i))) arcs

-- whether two points are joined once these points are eliminated, the last one first
abbrev pub joined_of : List Constraint → List ℕ → ℕ → ℕ → Bool
joined_of arcs [] i j = has_edge arcs i j
joined_of arcs (k ∷ es) i j = joined_of arcs es i j || (joined_of arcs es i k && joined_of arcs es k j)

-- a path without direction whose inner points all pass the test
abbrev pub HasPath : (ℕ → Bool) → List Constraint → ℕ → ℕ → Type 0
HasPath passes arcs i j = (inner : List ℕ) × IsPath arcs i j inner × AllByRecursion (λ p. passes p ≡ true) inner

-- the points that an order joins are the different ones that are joined once the points before both are eliminated, in this order; of a
-- point that stands twice in the order its first place counts
abbrev pub JoinedByElimination : Type 0
JoinedByElimination =
    (arcs : List Constraint) (order : List ℕ) (i j : ℕ)
    → IsJoined arcs order i j ↔ ((i ≢ j) × (joined_of arcs (before_both (reverse order) i j) i j ≡ true))
