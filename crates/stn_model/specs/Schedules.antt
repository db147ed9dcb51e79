-- Schedules, consistency and least bounds (minimal bounds: Dechter, Meiri and Pearl 1991), over a number of points and a list of arcs:
-- time_at, KeepsArcs, Satisfies, IsConsistent, IsLeastBound.
use Rattle.std.specs.Prelude.{◌≡◌, ℕ, ◌<◌, ℤ, pos, ◌-ℤ◌, ◌≤ℤ◌, List, length, slice_index_or}
use Rattle.stn_model.specs.declared.ids.Constraint.{Constraint}
use Rattle.stn_model.specs.Arcs.{from_at, to_at, bound_at}
use Rattle.stn_model.specs.Walks.{IsWalk, weight}

-- the time of a point
abbrev pub time_at : List ℤ → ℕ → ℤ
time_at times p = slice_index_or times p (pos 0)

-- each arc holds
abbrev pub KeepsArcs : List Constraint → List ℤ → Type 0
KeepsArcs arcs times =
    (n : ℕ) → n < length arcs → (time_at times (to_at arcs n) -ℤ time_at times (from_at arcs n)) ≤ℤ bound_at arcs n

-- one time for each point, the first is 0, and each arc holds
pub record Satisfies (points : ℕ) (arcs : List Constraint) (times : List ℤ) : Type 0 where
  pub one_each : length times ≡ points
  pub first : time_at times 0 ≡ pos 0
  pub keeps : KeepsArcs arcs times

-- some schedule satisfies the arcs
abbrev pub IsConsistent : ℕ → List Constraint → Type 0
IsConsistent points arcs = (times : List ℤ) × Satisfies points arcs times

-- some walk from i to j has weight b, and some schedule has j exactly b after i
pub record IsLeastBound (points : ℕ) (arcs : List Constraint) (i j : ℕ) (b : ℤ) : Type 0 where
  pub walk : List ℕ
  pub is_walk : IsWalk arcs i j walk
  pub weighs : weight arcs walk ≡ b
  pub times : List ℤ
  pub satisfies : Satisfies points arcs times
  pub attains : time_at times j -ℤ time_at times i ≡ b
