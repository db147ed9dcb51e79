-- Laws of the distances from one point: DistancesAreLeast, JoinedOrdersAreChordal, TwoPassesAreEnough, NoPathIsLighter.
use Rattle.std.specs.Prelude.{◌≡◌, ◌≢◌, ◌↔◌, ℕ, ◌<◌, Bool, true, ℤ, pos, ◌≤ℤ◌, List, Some, Contains}
use Rattle.std.specs.Option.{unwrap_or}
use Rattle.stn_model.specs.declared.ids.Constraint.{Constraint}
use Rattle.stn_model.specs.Walks.{AllDifferent}
use Rattle.stn_model.specs.Joined.{HasEdge, IsJoined}
use Rattle.stn_model.specs.Schedules.{IsLeastBound}
use Rattle.stn_walk.specs.Distances.{HasEndsBelow}
use Rattle.tri_solve.specs.Passes.{distance}
use Rattle.tri_solve.specs.Chordal.{IsChordal, AreLeast, IsLeastFrom, IsPath, bounds_sum}

-- the distances of the two passes are least weights of walks
abbrev pub DistancesAreLeast : Type 0
DistancesAreLeast =
    (arcs : List Constraint) (joined : ℕ → ℕ → Bool) (bound : ℕ → ℕ → ℤ) (order : List ℕ) → AreLeast arcs joined bound → IsChordal joined order
    → (i : ℕ) → Contains order i → (p : ℕ) → IsLeastFrom arcs i p (distance joined bound order i p)

-- the joined points of an elimination order that has the ends of all arcs are chordal
abbrev pub JoinedOrdersAreChordal : Type 0
JoinedOrdersAreChordal =
    (arcs : List Constraint) (order : List ℕ) (joined : ℕ → ℕ → Bool) → ((i j : ℕ) → (joined i j ≡ true) ↔ IsJoined arcs order i j)
    → AllDifferent order → ((a : Constraint) → Contains arcs a → Contains order a.from.0 × Contains order a.to.0) → IsChordal joined order

-- so from the least bounds of the joined points of an order two passes make the least bounds from a point to every other
abbrev pub TwoPassesAreEnough : Type 0
TwoPassesAreEnough =
    (points : ℕ) (arcs : List Constraint) (order : List ℕ) (joined : ℕ → ℕ → Bool) (bound : ℕ → ℕ → ℤ)
    → HasEndsBelow points arcs → ((a : Constraint) → Contains arcs a → a.from.0 ≢ a.to.0)
    → AllDifferent order → ((p : ℕ) → (p < points) ↔ Contains order p)
    → ((i j : ℕ) → (joined i j ≡ true) ↔ IsJoined arcs order i j) → ((p : ℕ) → p < points → p ≢ 0 → HasEdge arcs p 0)
    → ((i j : ℕ) → joined i j ≡ true → IsLeastBound points arcs i j (bound i j))
    → (i p : ℕ) → i < points → p < points → IsLeastBound points arcs i p (unwrap_or (distance joined bound order i p) (pos 0))

-- no path of joined points is lighter than the one that goes up and then down
abbrev pub NoPathIsLighter : Type 0
NoPathIsLighter =
    (arcs : List Constraint) (joined : ℕ → ℕ → Bool) (bound : ℕ → ℕ → ℤ) (order : List ℕ) → AreLeast arcs joined bound → IsChordal joined order
    → (i : ℕ) → Contains order i → (p : ℕ) (ps : List ℕ) → IsPath (λ p q. joined p q ≡ true) i ps p
    → (d : ℤ) × (distance joined bound order i p ≡ Some d) × (d ≤ℤ bounds_sum bound i ps)
