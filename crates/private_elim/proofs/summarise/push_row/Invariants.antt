-- The entries of the places so far.
use Rattle.private_elim.proofs.summary.RowLists.{IsRowTo}
use Rattle.private_elim.proofs.summarise.push_row.Given as goal

abbrev pub invariant-loop-j : goal.invariant-loop-j
invariant-loop-j l = IsRowTo l.elimination l.i l.j-items l.initial.entries.items l.j-index l.entries.items
