-- Inner least weights over a set of points, which is a test: NoNegativeWithin, IsInnerWeight.
use Rattle.std.specs.Prelude.{◌≡◌, ℕ, Bool, true, ℤ, pos, ◌≤ℤ◌, List, Option}
use Rattle.stn_model.specs.declared.ids.Constraint.{Constraint}
use Rattle.stn_model.specs.ArcWalks.{IsInner, IsInnerLeast, arcs_weight}

-- no closed walk with all its points in the set is negative
abbrev pub NoNegativeWithin : (ℕ → Bool) → List Constraint → Type 0
NoNegativeWithin inner arcs = (p : ℕ) (w : List Constraint) → inner p ≡ true → IsInner inner arcs p p w → pos 0 ≤ℤ arcs_weight w

-- the least weight of the walks from i to j whose inner points are all in the set, where there is such a walk; it is told only
-- where no closed walk in the set is negative, since walks that go round one have no least weight
pub record IsInnerWeight (inner : ℕ → Bool) (arcs : List Constraint) (i j : ℕ) (o : Option ℤ) : Type 0 where
  pub sound : NoNegativeWithin inner arcs
  pub least : IsInnerLeast inner arcs i j o
