-- What contracts see of the times that an agent chose, and what its tables begin with: PlanView, IsConsistentLocal, agent_points, late_start, early_start,
-- none_chosen.
use Rattle.std.specs.Prelude.{ℕ, ℤ, pos, List, drop, set, replicate, Option, None}
use Rattle.stn_model.specs.Limits.{greatest_bound}
use Rattle.stn_model.specs.declared.ids.Lean.{Lean}
use Rattle.private_elim.specs.Locals.{LocalView, arcs_in}
use Rattle.dispatcher.specs.Choices.{IsScheduleOf}

-- a local network, the agent's lean, and by point the time that is chosen for it
pub record PlanView : Type 0 where
  pub local : LocalView
  pub lean : Lean
  pub choices : List (Option ℤ)

-- some schedule satisfies the local network
abbrev pub IsConsistentLocal : LocalView → Type 0
IsConsistentLocal v = (times : List ℤ) × IsScheduleOf (arcs_in v) times

-- the agent's points, by number: all points of the local network but z, which stands first
abbrev pub agent_points : LocalView → List ℕ
agent_points v = drop 1 v.points

-- the latest times at first: 0 for z, and 2^40 for the others
abbrev pub late_start : ℕ → List ℤ
late_start labels = set (replicate labels (pos greatest_bound)) 0 (pos 0)

-- the earliest times at first
abbrev pub early_start : ℕ → List ℤ
early_start labels = replicate labels (pos 0)

-- no choice yet
abbrev pub none_chosen : ℕ → List (Option ℤ)
none_chosen labels = replicate labels None
