use Rattle.std.proofs.Common.{◌≡◌}
use Rattle.std.specs.Prelude.{drop}
use Rattle.elim_step.specs.Summaries.{entry_in}
use Rattle.elim_step.proofs.summary.Summary.weight.Given as goal

abbrev pub invariant-loop-entry : goal.invariant-loop-entry
invariant-loop-entry l = entry_in l.self l.from.0 l.to.0 ≡ entry_in (drop l.entry-index l.self) l.from.0 l.to.0
