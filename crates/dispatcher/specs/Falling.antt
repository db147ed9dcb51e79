-- Labels of points that only fall, until each arc holds: Holds, IsArcAmong, IsSafe, room, Falls, IsBroken.
use Rattle.std.specs.Prelude.{◌≡◌, ℕ, ◌<◌, ◌≤◌, ℤ, pos, neg_ℤ, ◌+ℤ◌, ◌-ℤ◌, ◌≤ℤ◌, ◌<ℤ◌, List, length, unsigned_abs, Contains}
use Rattle.std.specs.List.{sum_by}
use Rattle.stn_model.specs.Limits.{greatest_bound}
use Rattle.stn_model.specs.declared.ids.Constraint.{Constraint}
use Rattle.stn_model.specs.Arcs.{arc_at, from_at, to_at, bound_at}
use Rattle.stn_model.specs.Schedules.{time_at}

-- each arc holds at the numbers that a function gives
abbrev pub Holds : List Constraint → (ℕ → ℤ) → Type 0
Holds arcs f = (n : ℕ) → n < length arcs → (f (to_at arcs n) -ℤ f (from_at arcs n)) ≤ℤ bound_at arcs n

-- the arc joins two of the known points, which have labels, and its bound has magnitude at most 2^40
pub record IsArcAmong (known : List ℕ) (labels : ℕ) (a : Constraint) : Type 0 where
  pub from_known : Contains known a.from.0
  pub to_known : Contains known a.to.0
  pub from_in : a.from.0 < labels
  pub to_in : a.to.0 < labels
  pub low : neg_ℤ (pos greatest_bound) ≤ℤ a.bound
  pub high : a.bound ≤ℤ pos greatest_bound

-- each arc joins known points, whose labels are at most 2^40, and no less than numbers of -2^40 or more at which each arc holds
pub record IsSafe (arcs : List Constraint) (labels : List ℤ) : Type 0 where
  pub known : List ℕ
  pub among : (n : ℕ) → n < length arcs → IsArcAmong known (length labels) (arc_at arcs n)
  pub floor : ℕ → ℤ
  pub holds : Holds arcs floor
  pub deep : (p : ℕ) → Contains known p → neg_ℤ (pos greatest_bound) ≤ℤ floor p
  pub above : (p : ℕ) → Contains known p → floor p ≤ℤ time_at labels p
  pub high : (p : ℕ) → Contains known p → time_at labels p ≤ℤ pos greatest_bound

-- how far labels can still fall
abbrev pub room : List ℤ → ℕ
room labels = sum_by (λ t. unsigned_abs (t +ℤ pos greatest_bound)) labels

-- labels only fell, and not below any numbers at which each arc holds and which the labels were not below
pub record Falls (arcs : List Constraint) (old new : List ℤ) : Type 0 where
  pub one_each : length new ≡ length old
  pub below : (p : ℕ) → time_at new p ≤ℤ time_at old p
  pub greatest : (known : List ℕ) → ((n : ℕ) → n < length arcs → Contains known (from_at arcs n) × Contains known (to_at arcs n))
      → (f : ℕ → ℤ) → Holds arcs f → ((p : ℕ) → Contains known p → f p ≤ℤ time_at old p) → (p : ℕ) → Contains known p → f p ≤ℤ time_at new p
  pub less : room new ≤ room old

-- the arc of that number does not hold
abbrev pub IsBroken : List Constraint → List ℤ → ℕ → Type 0
IsBroken arcs labels n = (time_at labels (from_at arcs n) +ℤ bound_at arcs n) <ℤ time_at labels (to_at arcs n)
