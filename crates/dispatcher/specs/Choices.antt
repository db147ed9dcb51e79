-- Schedules of a list of arcs that keep choices, windows, and choices made in turn: IsScheduleOf, choice_at, Keeps, HasWindow, LiesWithin, Takes, Sets,
-- Completes, times_of.
use Rattle.std.specs.Prelude.{◌≡◌, ℕ, ℤ, pos, ◌≤ℤ◌, List, [], ◌∷◌, map, set, slice_index_or, Option, Some, None, is_some, true, ◌⊎◌}
use Rattle.std.specs.Option.{unwrap_or}
use Rattle.stn_model.specs.declared.ids.Lean.{Lean}
use Rattle.stn_model.specs.Schedules.{KeepsArcs, time_at}
use Rattle.stn_model.specs.declared.ids.Constraint.{Constraint}

-- times by the numbers of the points, z at 0, at which each arc of the arcs holds
abbrev pub IsScheduleOf : List Constraint → List ℤ → Type 0
IsScheduleOf arcs times = (time_at times 0 ≡ pos 0) × KeepsArcs arcs times

-- the time that is chosen for a point
abbrev pub choice_at : List (Option ℤ) → ℕ → Option ℤ
choice_at choices p = slice_index_or choices p None

-- a schedule of the arcs with each chosen point at its time
pub record Keeps (arcs : List Constraint) (choices : List (Option ℤ)) (times : List ℤ) : Type 0 where
  pub schedule : IsScheduleOf arcs times
  pub chosen : (p : ℕ) (t : ℤ) → choice_at choices p ≡ Some t → time_at times p ≡ t

-- the least and the greatest time of the point over all schedules that keep the choices: some such schedule has the one, some the other
pub record HasWindow (arcs : List Constraint) (choices : List (Option ℤ)) (p : ℕ) (lo hi : ℤ) : Type 0 where
  pub least : (times : List ℤ) → Keeps arcs choices times → lo ≤ℤ time_at times p
  pub greatest : (times : List ℤ) → Keeps arcs choices times → time_at times p ≤ℤ hi
  pub earliest : (times : List ℤ) × Keeps arcs choices times × (time_at times p ≡ lo)
  pub latest : (times : List ℤ) × Keeps arcs choices times × (time_at times p ≡ hi)

-- the time lies in the window of the point
abbrev pub LiesWithin : List Constraint → List (Option ℤ) → ℕ → ℤ → Type 0
LiesWithin arcs choices p t = (lo : ℤ) × (hi : ℤ) × HasWindow arcs choices p lo hi × (lo ≤ℤ t) × (t ≤ℤ hi)

-- the point gets an answer of the chooser in its window of this moment
pub record Takes (answers : Lean → ℤ → ℤ → ℤ → Type 0) (arcs : List Constraint) (lean : Lean) (choices : List (Option ℤ)) (p : ℕ) (next : List (Option ℤ)) : Type 0 where
  pub was : choice_at choices p ≡ None
  pub lo : ℤ
  pub hi : ℤ
  pub window : HasWindow arcs choices p lo hi
  pub time : ℤ
  pub answer : answers lean lo hi time
  pub now : next ≡ set choices p (Some time)

-- a chosen point stays as it is, and another gets its time
abbrev pub Sets : (Lean → ℤ → ℤ → ℤ → Type 0) → List Constraint → Lean → List (Option ℤ) → ℕ → List (Option ℤ) → Type 0
Sets answers arcs lean choices p next = ((is_some (choice_at choices p) ≡ true) × (next ≡ choices)) ⊎ Takes answers arcs lean choices p next

-- the same for each of these points in turn
abbrev pub Completes : (Lean → ℤ → ℤ → ℤ → Type 0) → List Constraint → Lean → List (Option ℤ) → List ℕ → List (Option ℤ) → Type 0
Completes answers arcs lean choices [] last = last ≡ choices
Completes answers arcs lean choices (p ∷ ps) last = (next : List (Option ℤ)) × Sets answers arcs lean choices p next × Completes answers arcs lean next ps last

-- the chosen times, with 0 for z and where none is chosen
abbrev pub times_of : List (Option ℤ) → List ℤ
times_of choices = map (λ o. unwrap_or o (pos 0)) choices
