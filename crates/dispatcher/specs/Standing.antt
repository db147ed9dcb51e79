-- What a dispatcher keeps: exchanged, IsStanding.
use Rattle.std.specs.Prelude.{◌≡◌, ℕ, ◌<◌, ℤ, pos, neg_ℤ, ◌≤ℤ◌, List, map, length, Contains, Option, Some}
use Rattle.stn_model.specs.Limits.{greatest_bound}
use Rattle.stn_model.specs.declared.ids.Constraint.{Constraint}
use Rattle.stn_model.specs.Arcs.{arc_at}
use Rattle.stn_model.specs.Schedules.{KeepsArcs, time_at}
use Rattle.dispatcher.specs.Falling.{IsArcAmong}
use Rattle.dispatcher.specs.Choices.{Keeps, choice_at}

-- the arc with its ends exchanged
abbrev pub exchanged : Constraint → Constraint
exchanged a = record { from = a.to; to = a.from; bound = a.bound }

-- arcs between points that have z among them, and choices for some of the points; the latest times that keep the choices, which are a schedule;
-- and the earliest ones with the sign changed, at which each arc turned round holds
pub record IsStanding (arcs : List Constraint) (points : List ℕ) (choices : List (Option ℤ)) (latest early : List ℤ) : Type 0 where
  pub among : (n : ℕ) → n < length arcs → IsArcAmong points (length latest) (arc_at arcs n)
  pub early_each : length early ≡ length latest
  pub choice_each : length choices ≡ length latest
  pub z_known : Contains points 0
  pub known : (p : ℕ) → Contains points p → p < length latest
  pub chosen_known : (p : ℕ) (t : ℤ) → choice_at choices p ≡ Some t → Contains points p
  pub keeps : Keeps arcs choices latest
  pub turned_keep : KeepsArcs (map exchanged arcs) early
  pub early_z : time_at early 0 ≡ pos 0
  pub early_chosen : (p : ℕ) (t : ℤ) → choice_at choices p ≡ Some t → time_at early p ≡ neg_ℤ t
  pub greatest : (times : List ℤ) → Keeps arcs choices times → (p : ℕ) → Contains points p → time_at times p ≤ℤ time_at latest p
  pub least : (times : List ℤ) → Keeps arcs choices times → (p : ℕ) → Contains points p → neg_ℤ (time_at early p) ≤ℤ time_at times p
  pub late_high : (p : ℕ) → Contains points p → time_at latest p ≤ℤ pos greatest_bound
  pub early_low : (p : ℕ) → Contains points p → time_at early p ≤ℤ pos 0
