use Rattle.std.specs.Prelude.{◌≡◌, drop}
use Rattle.elim_step.specs.Summaries.{is_summary, may_all_follow}
use Rattle.elim_step.proofs.summary.is_summary.Given as goal

abbrev pub invariant-loop-entry : goal.invariant-loop-entry
invariant-loop-entry l = is_summary l.entries ≡ may_all_follow l.last (drop l.entry-index l.entries)
