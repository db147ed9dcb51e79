-- A run on an input of which each outcome is reported.
use Rattle.std.proofs.Common.{◌≡◌, ℕ, ◌≤◌, ⊎_elim, inr, List, length, Option, None, Some, Result, Ok, Err, refl, subst, arith}
use Rattle.stn_io.specs.Bytes.{Loses}
use Rattle.stn_io.specs.Causes.{Rose}
use Rattle.stn_io.specs.States.{SourceState, SinkState}
use Rattle.stn_io.specs.declared.whole.ReadRefusal.{ReadRefusal}
use Rattle.stn_io.specs.declared.whole.ReadRefusal.TheVariants as refusal
use Rattle.mastn.specs.declared.answer.Outcome.{Outcome}
use Rattle.mastn.specs.declared.status.Status.{Status}
use Rattle.mastn.specs.Laws.{IsReported}
use Rattle.mastn.specs.Runs.{Means, Runs}
use Rattle.mastn.specs.Statuses.{status_of, meant_status}

-- no source that tells fewer bytes loses more
not_long : (bytes : List ℕ) (after : Option (List ℕ)) → length bytes ≤ 16777216 → Loses (Some bytes) after 16777217 → ⊥
not_long bytes None few gone = gone
not_long bytes (Some ys) few gone = absurd (omega (arith, gone.0))

same_status : (answer meant : Status) → answer ≡ meant → IsReported meant → IsReported answer
same_status answer meant e h = rw e h

module _ (says : List ℕ → Outcome → List ℕ → Type 0) (source left : SourceState) (bytes : List ℕ) (told : source.left ≡ Some bytes)
    (few : length bytes ≤ 16777216) (quiet : Rose source.faults left.faults → ⊥)
    (reports : (o : Outcome) (text : List ℕ) → says bytes o text → IsReported (status_of o)) where
  meant_reports : (m : Result Outcome ReadRefusal) (text : List ℕ) → Means says source left m text → IsReported (meant_status m)
  meant_reports (Ok o) text m =
      let same : m.0 ≡ bytes = rw told at m.1.told in
      reports o text (subst (λ bs. says bs o text) same m.2)
  meant_reports (Err refusal.ReadFault) text m = absurd (quiet m.0.1)
  meant_reports (Err refusal.TooLong) text m = absurd (not_long bytes left.left few (rw told at m.0.0))
  meant_reports (Err refusal.OutOfMemory) text m = inr (inr refl)

  pub run_reports : (sink taken : SinkState) (answer : Status) → Runs says source left sink taken answer
      → (Rose sink.faults taken.faults → ⊥) → IsReported answer
  run_reports sink taken answer runs written =
      let report = meant_reports runs.meant runs.text runs.means in
      ⊎_elim (λ whole. same_status answer (meant_status runs.meant) whole.0 report) (λ failed. absurd (written failed.1.rose)) runs.writes
