-- Labels that only rise, each point with the arc that raised it last.
use Rattle.std.specs.Prelude.{◌≡◌, ◌≢◌, ℕ, ◌+◌, ◌*◌, ◌<◌, ◌≤◌, ℤ, pos, neg_ℤ, ◌-ℤ◌, ◌≤ℤ◌, ◌<ℤ◌, List, length, slice_index, unsigned_abs, ◌⊎◌}
use Rattle.std.specs.List.{sum_by}
use Rattle.stn_model.specs.Limits.{greatest_bound, greatest_walk}
use Rattle.stn_model.specs.declared.ids.Constraint.{Constraint}
use Rattle.stn_model.specs.Arcs.{from_at, to_at, bound_at}
use Rattle.stn_model.specs.Schedules.{KeepsArcs, time_at}
use Rattle.plain_solve.specs.declared.graph.Graph.{Graph}
use Rattle.plain_solve.specs.declared.labels.Labels.{Labels}

-- the arc n begins at p, and is tight and leads to a point of smaller stamp, or its end asks for a higher label of p
pub record IsLast (arcs : List Constraint) (times : List ℤ) (stamps : List ℕ) (p n : ℕ) : Type 0 where
  pub within : n < length arcs
  pub starts : from_at arcs n ≡ p
  pub forces : ((time_at times p ≡ time_at times (to_at arcs n) -ℤ bound_at arcs n) × (slice_index stamps (to_at arcs n) < slice_index stamps p))
      ⊎ (time_at times p <ℤ (time_at times (to_at arcs n) -ℤ bound_at arcs n))

-- how far the labels can still rise
abbrev pub room : Graph → List ℤ → ℕ
room g times = sum_by (λ t. unsigned_abs (g.top -ℤ t)) times

-- no lower than -2^40, and no higher than the top
pub record IsInside (g : Graph) (t : ℤ) : Type 0 where
  pub low : neg_ℤ (pos greatest_bound) ≤ℤ t
  pub high : t ≤ℤ g.top

-- one label and one last arc for each point, and 0 for the root; no times that keep the arcs are lower,
-- counted from the root's
pub record IsForcing (g : Graph) (times : List ℤ) (last_arcs : List ℕ) (raises : ℕ) : Type 0 where
  pub one_each : length times ≡ g.points
  pub last_each : length last_arcs ≡ g.points
  pub first : time_at times g.root ≡ pos 0
  pub inside : (p : ℕ) → p < g.points → IsInside g (time_at times p)
  pub stamps : List ℕ
  pub stamp_each : length stamps ≡ g.points
  pub next : ℕ
  pub stamped : (p : ℕ) → p < g.points → slice_index stamps p < next
  pub each : (p : ℕ) → p ≢ g.root → p < g.points → IsLast g.arcs.items times stamps p (slice_index last_arcs p)
  pub below : (other : List ℤ) → KeepsArcs g.arcs.items other → (p : ℕ) → p < g.points → time_at times p ≤ℤ (time_at other p -ℤ time_at other g.root)
  pub counted : raises + room g times ≤ 2 * greatest_walk

abbrev pub IsForced : Graph → Labels → Type 0
IsForced g s = IsForcing g s.times.items s.last_arcs.items s.raises

-- the arc of that number does not hold
abbrev pub IsBroken : Graph → Labels → ℕ → Type 0
IsBroken g s n = time_at s.times.items (from_at g.arcs.items n) <ℤ (time_at s.times.items (to_at g.arcs.items n) -ℤ bound_at g.arcs.items n)

abbrev pub Holds : Graph → Labels → ℕ → Type 0
Holds g s n = (time_at s.times.items (to_at g.arcs.items n) -ℤ time_at s.times.items (from_at g.arcs.items n)) ≤ℤ bound_at g.arcs.items n

-- the arc of that number asks for a label of the root above 0, or for one above the top
pub record IsOver (g : Graph) (s : Labels) (n : ℕ) : Type 0 where
  pub within : n < length g.arcs.items
  pub over :
      ((from_at g.arcs.items n ≡ g.root) × (pos 0 <ℤ (time_at s.times.items (to_at g.arcs.items n) -ℤ bound_at g.arcs.items n)))
      ⊎ ((from_at g.arcs.items n ≢ g.root) × (g.top <ℤ (time_at s.times.items (to_at g.arcs.items n) -ℤ bound_at g.arcs.items n)))
