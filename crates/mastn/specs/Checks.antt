-- What the job `check` says of a network: Checks.
use Rattle.std.specs.Prelude.{◌≡◌, ℕ, ℤ, List}
use Rattle.stn_model.specs.Net.{Net, arcs_of}
use Rattle.stn_model.specs.Walks.{IsNegativeCycle, IsNormal}
use Rattle.plain_solve.specs.Answers.{IsEarliest}
use Rattle.mastn.specs.declared.answer.Outcome.{Outcome}
use Rattle.mastn.specs.declared.answer.Outcome.TheVariants.{Done, Inconsistent}
use Rattle.mastn.specs.Reports.{consistent_report, inconsistent_report}

-- the report of a consistent network, with its earliest schedule
pub record ReportsConsistent (net : Net) (text : List ℕ) : Type 0 where
  pub times : List ℤ
  pub earliest : IsEarliest net times
  pub report : text ≡ consistent_report net times

-- the report of an inconsistent network, with a negative cycle in normal form
pub record ReportsInconsistent (net : Net) (text : List ℕ) : Type 0 where
  pub walk : List ℕ
  pub cycle : IsNegativeCycle (arcs_of net) walk
  pub normal : IsNormal walk
  pub report : text ≡ inconsistent_report net walk

-- the outcome and the text for a network
abbrev pub Checks : Net → Outcome → List ℕ → Type 0
Checks net Done text = ReportsConsistent net text
Checks net Inconsistent text = ReportsInconsistent net text
Checks net outcome text = ⊥
