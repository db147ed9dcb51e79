-- The entries of the rows so far.
use Rattle.std.proofs.Common.{◌≡◌}
use Rattle.private_elim.specs.SummaryRows.{rows_below}
use Rattle.private_elim.proofs.summarise.entries_of.Given as goal

abbrev pub invariant-loop-i : goal.invariant-loop-i
invariant-loop-i l = l.entries.items ≡ rows_below l.elimination l.i
