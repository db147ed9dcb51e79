use Rattle.sparse_rows.proofs.RowEntries.{sought_at}
use Rattle.sparse_rows.proofs.row.Row.advance_far.Goals as goal

pub returns-then-is_reached : goal.returns-then-is_reached
returns-then-is_reached c = sought_at _ _ _ c.requires.rising c.walk-at.ensures.within c.walk-at.ensures.below (c.is_reached.ensures c.if-is_reached.true)
