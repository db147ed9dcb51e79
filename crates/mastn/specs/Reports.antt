-- Whole texts that a job writes: refusal_line, consistent_report, summed_cycle, inconsistent_report, verified_consistent, verified_inconsistent.
use Rattle.std.specs.Prelude.{ℕ, ℤ, true, false, List, [], ◌∷◌, ◌++◌, codes}
use Rattle.stn_model.specs.Net.{Net, arcs_of}
use Rattle.stn_model.specs.Walks.{weight}
use Rattle.net_text.specs.Plain.{line}
use Rattle.schedule_report.specs.Lines.{verdict_line, error_line}
use Rattle.schedule_report.specs.Parts.{times_part, cycle_part}

-- a refusal of no line of the input
abbrev pub refusal_line : List ℕ → List ℕ
refusal_line cause = error_line 0 cause []

-- the times of a consistent network's points and acts
abbrev pub consistent_report : Net → List ℤ → List ℕ
consistent_report net times = verdict_line true ++ times_part net times

-- a cycle with its sum
abbrev pub summed_cycle : Net → List ℕ → List ℕ
summed_cycle net walk = cycle_part net walk (weight (arcs_of net) walk)

-- a cycle of an inconsistent network, with its sum
abbrev pub inconsistent_report : Net → List ℕ → List ℕ
inconsistent_report net walk = verdict_line false ++ summed_cycle net walk

-- a certificate that shows what it should
abbrev pub verified_consistent : List ℕ
verified_consistent = line (codes "verified") (codes "consistent" ∷ [])

abbrev pub verified_inconsistent : List ℕ
verified_inconsistent = line (codes "verified") (codes "inconsistent" ∷ [])
