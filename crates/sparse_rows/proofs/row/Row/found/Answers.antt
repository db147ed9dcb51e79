use Rattle.sparse_rows.proofs.RowEntries.{is_here, is_gap, gap_none}
use Rattle.sparse_rows.proofs.row.Row.found.Goals as goal

pub returns-then-is_at-clause-here : goal.returns-then-is_at-clause-here
returns-then-is_at-clause-here c = is_here _ _ _ c.requires.sought (c.is_at.ensures.yes c.if-is_at.true).0 (c.is_at.ensures.yes c.if-is_at.true).1

pub returns-clause-gap : goal.returns-clause-gap
returns-clause-gap c = is_gap _ _ _ c.requires.rising c.requires.sought (c.is_at.ensures.no c.if-is_at.false)

pub returns-clause-none : goal.returns-clause-none
returns-clause-none c = gap_none _ _ _ (is_gap _ _ _ c.requires.rising c.requires.sought (c.is_at.ensures.no c.if-is_at.false))
