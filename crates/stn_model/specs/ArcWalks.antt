-- Walks as lists of arcs, so that a walk over a list is one over every longer list, with a test for the points that it passes
-- between its ends: arcs_weight, GoesOn, IsArcWalk, IsInner, IsInnerLeast, NoNegative.
use Rattle.std.specs.Prelude.{◌≡◌, ℕ, Bool, true, ℤ, pos, ◌+ℤ◌, ◌≤ℤ◌, List, [], ◌∷◌, Option, Some, None, Contains}
use Rattle.stn_model.specs.declared.ids.Constraint.{Constraint}

-- the sum of the bounds
abbrev pub arcs_weight : List Constraint → ℤ
arcs_weight [] = pos 0
arcs_weight (a ∷ w) = a.bound +ℤ arcs_weight w

-- the walk goes on from m to j over arcs of the list, and each point that it leaves, m too, passes the test
abbrev pub GoesOn : (ℕ → Bool) → List Constraint → ℕ → ℕ → List Constraint → Type 0
GoesOn inner arcs m j [] = m ≡ j
GoesOn inner arcs m j (a ∷ w) = (inner m ≡ true) × Contains arcs a × (a.from.0 ≡ m) × GoesOn inner arcs a.to.0 j w

-- a walk from i to j through any points; the empty list is one from each point to itself
abbrev pub IsArcWalk : List Constraint → ℕ → ℕ → List Constraint → Type 0
IsArcWalk arcs i j w = GoesOn (λ _. true) arcs i j w

-- a walk from i to j that is not empty and whose points between its ends all pass the test
abbrev pub IsInner : (ℕ → Bool) → List Constraint → ℕ → ℕ → List Constraint → Type 0
IsInner inner arcs i j [] = ⊥
IsInner inner arcs i j (a ∷ w) = Contains arcs a × (a.from.0 ≡ i) × GoesOn inner arcs a.to.0 j w

-- the least weight of these walks, where there is one: some walk has it, and none is lighter
abbrev pub IsInnerLeast : (ℕ → Bool) → List Constraint → ℕ → ℕ → Option ℤ → Type 0
IsInnerLeast inner arcs i j None = (w : List Constraint) → IsInner inner arcs i j w → ⊥
IsInnerLeast inner arcs i j (Some b) =
    ((w : List Constraint) × IsInner inner arcs i j w × (arcs_weight w ≡ b)) × ((w : List Constraint) → IsInner inner arcs i j w → b ≤ℤ arcs_weight w)

-- no closed walk is negative whose points, but perhaps the one where it begins and ends, all pass the test
abbrev pub NoNegative : (ℕ → Bool) → List Constraint → Type 0
NoNegative inner arcs = (p : ℕ) (w : List Constraint) → IsInner inner arcs p p w → pos 0 ≤ℤ arcs_weight w
