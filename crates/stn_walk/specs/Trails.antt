-- Trails, what contracts see of a path: Trail, IsSimple, and one step: IsLonger, IsCut, GoesOn, GoesOnLight, IsClosed.
use Rattle.std.specs.Prelude.{◌≡◌, ℕ, ◌+◌, ◌<◌, pos, ◌+ℤ◌, ◌<ℤ◌, ◌≤ℤ◌, List, [], ◌∷◌, ◌++◌, length, slice_index, take, drop, ◌⊎◌}
use Rattle.stn_model.specs.declared.ids.Constraint.{Constraint}
use Rattle.stn_model.specs.Arcs.{to_at, bound_at}
use Rattle.stn_model.specs.Walks.{IsWalk, weight, heads, AllDifferent}

-- points in the order in which they are passed, the arcs between them, and how many points there is room for
pub record Trail : Type 0 where
  pub points : List ℕ
  pub arcs : List ℕ
  pub room : ℕ

-- a walk from i to j that passes no point twice, with its points
pub record IsSimple (list : List Constraint) (i j : ℕ) (t : Trail) : Type 0 where
  pub walk : IsWalk list i j t.arcs
  pub passed : t.points ≡ i ∷ heads list t.arcs
  pub simple : AllDifferent t.points

-- the arc n leads to a point that was not passed, and is put at the end
pub record IsLonger (list : List Constraint) (n : ℕ) (old new : Trail) : Type 0 where
  pub fresh : (k : ℕ) → k < length old.points → slice_index old.points k ≡ to_at list n → ⊥
  pub points : new.points ≡ old.points ++ to_at list n ∷ []
  pub arcs : new.arcs ≡ old.arcs ++ n ∷ []

-- the arc n leads to the point at this place, and all after it is dropped
pub record IsCut (list : List Constraint) (n place : ℕ) (old new : Trail) : Type 0 where
  pub within : place < length old.points
  pub same : slice_index old.points place ≡ to_at list n
  pub points : new.points ≡ take (place + 1) old.points
  pub arcs : new.arcs ≡ take place old.arcs

abbrev pub GoesOn : List Constraint → ℕ → Trail → Trail → Type 0
GoesOn list n old new = IsLonger list n old new ⊎ ((place : ℕ) × IsCut list n place old new)

-- the same, and the closed part that was dropped weighs at least 0
abbrev pub GoesOnLight : List Constraint → ℕ → Trail → Trail → Type 0
GoesOnLight list n old new =
    IsLonger list n old new
    ⊎ ((place : ℕ) × IsCut list n place old new × (pos 0 ≤ℤ (weight list (drop place old.arcs) +ℤ bound_at list n)))

-- the arc n leads back to a point that was passed, and with the arcs from there on sums below 0
pub record IsClosed (list : List Constraint) (n : ℕ) (t : Trail) (closed : List ℕ) : Type 0 where
  pub place : ℕ
  pub within : place < length t.points
  pub same : slice_index t.points place ≡ to_at list n
  pub arcs : closed ≡ drop place t.arcs ++ n ∷ []
  pub negative : (weight list (drop place t.arcs) +ℤ bound_at list n) <ℤ pos 0
