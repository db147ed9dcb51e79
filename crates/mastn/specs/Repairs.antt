-- What the job `repair` says of a network: IsRaise, IsLeft, IsAnswer, AnswersArc, AnswersWalk, Adds, ReportsRepairs, Repairs.
use Rattle.std.specs.Prelude.{◌≡◌, ◌⊎◌, ℕ, ℤ, pos, ◌+ℤ◌, ◌-ℤ◌, ◌≤ℤ◌, Bool, true, false, List, [], ◌∷◌, ◌++◌, Some, None, Contains}
use Rattle.stn_model.specs.Arcs.{bound_at}
use Rattle.stn_model.specs.Net.{Net, arcs_of, point_count, is_given}
use Rattle.stn_model.specs.Schedules.{IsConsistent}
use Rattle.stn_model.specs.Walks.{IsNegativeCycle, IsNormal}
use Rattle.plain_solve.specs.Answers.{IsEarliest}
use Rattle.least_repair.specs.Loosened.{loosened, without}
use Rattle.schedule_report.specs.Lines.{repair_line}
use Rattle.schedule_report.specs.Parts.{times_part}
use Rattle.mastn.specs.declared.answer.Outcome.{Outcome}
use Rattle.mastn.specs.declared.answer.Outcome.TheVariants.{Done, Inconsistent}
use Rattle.mastn.specs.Checks.{ReportsConsistent}
use Rattle.mastn.specs.Reports.{summed_cycle, inconsistent_report}

-- the least raise of an arc's bound: the earliest schedule with it, and a negative cycle in normal form with one less, which shows the
-- bound raised by that much
pub record IsRaise (net : Net) (n : ℕ) (text : List ℕ) : Type 0 where
  pub by : ℤ
  pub raises : pos 1 ≤ℤ by
  pub within : (bound_at (arcs_of net) n +ℤ by) ≤ℤ net.horizon
  pub times : List ℤ
  pub earliest : IsEarliest (loosened net n by) times
  pub walk : List ℕ
  pub cycle : IsNegativeCycle (arcs_of (loosened net n (by -ℤ pos 1))) walk
  pub normal : IsNormal walk
  pub report : text ≡ repair_line n (Some by) ++ times_part net times ++ summed_cycle (loosened net n (by -ℤ pos 1)) walk

-- no raise of the arc's bound is enough: a negative cycle in normal form that does not name the arc
pub record IsLeft (net : Net) (n : ℕ) (text : List ℕ) : Type 0 where
  pub remains : IsConsistent (point_count net) (arcs_of (without net n)) → ⊥
  pub walk : List ℕ
  pub cycle : IsNegativeCycle (arcs_of net) walk
  pub normal : IsNormal walk
  pub unnamed : Contains walk n → ⊥
  pub report : text ≡ repair_line n None ++ summed_cycle net walk

-- what is said of a given arc
abbrev pub IsAnswer : Net → ℕ → List ℕ → Type 0
IsAnswer net n text = IsRaise net n text ⊎ IsLeft net n text

-- of an arc that was not given nothing is said
abbrev pub AnswersArc : Bool → Net → ℕ → List ℕ → Type 0
AnswersArc true net n text = IsAnswer net n text
AnswersArc false net n text = text ≡ []

-- what is said of the arcs of a walk, in its order
abbrev pub AnswersWalk : Net → List ℕ → List ℕ → Type 0
AnswersWalk net [] text = text ≡ []
AnswersWalk net (n ∷ ns) text =
    (first : List ℕ) × (rest : List ℕ) × AnswersArc (is_given net n) net n first × AnswersWalk net ns rest × (text ≡ first ++ rest)

-- such a text stands behind what was there
abbrev pub Adds : (List ℕ → Type 0) → List ℕ → List ℕ → Type 0
Adds says old new = (text : List ℕ) × says text × (new ≡ old ++ text)

-- the report of an inconsistent network: a negative cycle in normal form, and what is said of its given arcs
pub record ReportsRepairs (net : Net) (text : List ℕ) : Type 0 where
  pub walk : List ℕ
  pub cycle : IsNegativeCycle (arcs_of net) walk
  pub normal : IsNormal walk
  pub answers : List ℕ
  pub each : AnswersWalk net walk answers
  pub report : text ≡ inconsistent_report net walk ++ answers

-- the outcome and the text for a network; where it is consistent, those of `check`
abbrev pub Repairs : Net → Outcome → List ℕ → Type 0
Repairs net Done text = ReportsConsistent net text
Repairs net Inconsistent text = ReportsRepairs net text
Repairs net outcome text = ⊥
