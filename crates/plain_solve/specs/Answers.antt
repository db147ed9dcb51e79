-- What `plain_solve` answers.
use Rattle.std.specs.Prelude.{Bool, true, false, ℕ, ◌<◌, ℤ, ◌≤ℤ◌, List, ⊤}
use Rattle.stn_model.specs.Net.{Net, arcs_of, point_count}
use Rattle.stn_model.specs.Schedules.{Satisfies, time_at}
use Rattle.plain_solve.specs.declared.solve.Plain.{Plain}
use Rattle.plain_solve.specs.declared.solve.Plain.TheVariants.{Consistent, Inconsistent}

-- the schedule satisfies the network, and no schedule that does has an earlier time at any point
pub record IsEarliest (net : Net) (times : List ℤ) : Type 0 where
  pub satisfies : Satisfies (point_count net) (arcs_of net) times
  pub earliest : (other : List ℤ) → Satisfies (point_count net) (arcs_of net) other → (p : ℕ) → p < point_count net → time_at times p ≤ℤ time_at other p

abbrev pub is_consistent : Plain → Bool
is_consistent (Consistent times) = true
is_consistent (Inconsistent walk) = false

-- the fact holds of the schedule, if there is one
abbrev pub IfConsistent : Plain → (List ℤ → Type 0) → Type 0
IfConsistent (Consistent times) fact = fact times
IfConsistent (Inconsistent walk) fact = ⊤

-- the fact holds of the cycle, if there is one
abbrev pub IfInconsistent : Plain → (List ℕ → Type 0) → Type 0
IfInconsistent (Consistent times) fact = ⊤
IfInconsistent (Inconsistent walk) fact = fact walk
