use Rattle.std.proofs.Common.{◌<◌, ℕ}
use Rattle.std.specs.Prelude.{slice_index_or}
use Rattle.elim_step.specs.declared.summary.SummaryEntry.{SummaryEntry}
use Rattle.shared_graph.specs.Interfaces.{IsEnd}
use Rattle.shared_graph.proofs.interface.Interface.fits.Given as goal

abbrev pub invariant-loop-entry : goal.invariant-loop-entry
invariant-loop-entry l =
    (k : ℕ) (d : SummaryEntry) → k < l.entry-index
    → IsEnd l.self l.agent.0 (slice_index_or l.summary k d).from.0 × IsEnd l.self l.agent.0 (slice_index_or l.summary k d).to.0
