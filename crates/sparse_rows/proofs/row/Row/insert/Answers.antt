use Rattle.sparse_rows.proofs.RowEntries.{inserted_entries, inserted_rises, inserted_before, inserted_len}
use Rattle.sparse_rows.proofs.row.Row.insert.Goals as goal

pub returns-clause-rising : goal.returns-clause-rising
returns-clause-rising c = rw (c.in_ok-insert.ensures.items, c.self.view_is) (inserted_rises _ _ _ c.requires.rising c.requires.gap)

pub returns-clause-entries : goal.returns-clause-entries
returns-clause-entries c = rw (c.in_ok-insert.ensures.items, c.self.view_is) (inserted_entries _ _ _ c.requires.gap)

pub returns-clause-before : goal.returns-clause-before
returns-clause-before c = rw (c.in_ok-insert.ensures.items, c.self.view_is) (inserted_before _ _ _ c.requires.gap.within)

pub returns-clause-len : goal.returns-clause-len
returns-clause-len c = rw (c.in_ok-insert.ensures.items, c.self.view_is) (inserted_len _ _ _ c.requires.gap.within)
