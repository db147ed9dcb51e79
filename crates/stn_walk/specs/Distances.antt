-- Least weights of walks, and the least bounds and schedules that they give (Dechter, Meiri and Pearl 1991): HasEndsBelow, IsLeastWalk,
-- ReachesZero, LeastWalksAreBounds, InnerWeightsAreBounds, NoNegativeIsConsistent, LeastBoundsAreThere.
use Rattle.std.specs.Prelude.{◌≡◌, ◌≢◌, ◌↔◌, ℕ, ◌<◌, ℤ, ◌≤ℤ◌, Contains, List, Some, true}
use Rattle.stn_model.specs.declared.ids.Constraint.{Constraint}
use Rattle.stn_model.specs.Walks.{IsWalk, weight}
use Rattle.stn_model.specs.ArcWalks.{IsArcWalk, IsInnerLeast, NoNegative}
use Rattle.stn_model.specs.Schedules.{IsConsistent, IsLeastBound}
use Rattle.stn_model.specs.Net.{Net, point_count, arcs_of}
use Rattle.stn_model.specs.Valid.{IsNetwork}

-- each arc joins two of the first points
abbrev pub HasEndsBelow : ℕ → List Constraint → Type 0
HasEndsBelow points arcs = (a : Constraint) → Contains arcs a → (a.from.0 < points) × (a.to.0 < points)

-- some walk from i to j weighs b, and none weighs less
pub record IsLeastWalk (arcs : List Constraint) (i j : ℕ) (b : ℤ) : Type 0 where
  pub walk : List ℕ
  pub is_walk : IsWalk arcs i j walk
  pub weighs : weight arcs walk ≡ b
  pub least : (ns : List ℕ) → IsWalk arcs i j ns → b ≤ℤ weight arcs ns

-- there is a walk from z to each of the first points, and one back
abbrev pub ReachesZero : ℕ → List Constraint → Type 0
ReachesZero points arcs =
    (p : ℕ) → p < points → ((w : List Constraint) × IsArcWalk arcs 0 p w) × ((w : List Constraint) × IsArcWalk arcs p 0 w)

-- the least weight of the walks between two points is the least bound, where some schedule satisfies the arcs
abbrev pub LeastWalksAreBounds : Type 0
LeastWalksAreBounds =
    (points : ℕ) (arcs : List Constraint) → HasEndsBelow points arcs → IsConsistent points arcs
    → (i j : ℕ) (b : ℤ) → IsLeastWalk arcs i j b ↔ IsLeastBound points arcs i j b

-- the same of walks that are lists of arcs, between two different points
abbrev pub InnerWeightsAreBounds : Type 0
InnerWeightsAreBounds =
    (points : ℕ) (arcs : List Constraint) → HasEndsBelow points arcs → IsConsistent points arcs
    → (i j : ℕ) (b : ℤ) → i ≢ j → IsInnerLeast (λ _. true) arcs i j (Some b) ↔ IsLeastBound points arcs i j b

-- some schedule satisfies the arcs exactly where no closed walk is negative
abbrev pub NoNegativeIsConsistent : Type 0
NoNegativeIsConsistent =
    (points : ℕ) (arcs : List Constraint) → HasEndsBelow points arcs → NoNegative (λ _. true) arcs ↔ IsConsistent points arcs

-- a consistent network has a least bound between any two of its points
abbrev pub LeastBoundsAreThere : Type 0
LeastBoundsAreThere =
    (net : Net) → IsNetwork net → IsConsistent (point_count net) (arcs_of net)
    → (i j : ℕ) → i < point_count net → j < point_count net → (b : ℤ) × IsLeastBound (point_count net) (arcs_of net) i j b
