use Rattle.sparse_rows.proofs.Spread.{spread_rises, spread_cells, spread_room, spread_more, spread_within}
use Rattle.sparse_rows.proofs.row.Row.spread.Goals as goal

pub returns-clause-rising : goal.returns-clause-rising
returns-clause-rising c = spread_rises c.args.self.now _ c.args.size c.requires.within c.in_ok-entries.ensures.len c.in_ok-entries.ensures.each

pub returns-clause-cells : goal.returns-clause-cells
returns-clause-cells c = spread_cells c.args.self.now _ c.args.size c.requires.within c.in_ok-entries.ensures.len c.in_ok-entries.ensures.each

pub returns-clause-room : goal.returns-clause-room
returns-clause-room c = spread_room c.args.self.now _ c.args.size c.requires.within c.in_ok-entries.ensures.len c.in_ok-entries.ensures.each

pub returns-clause-more : goal.returns-clause-more
returns-clause-more c = spread_more c.args.self.now _ c.args.size c.requires.within c.in_ok-entries.ensures.len c.in_ok-entries.ensures.each

pub returns-clause-within : goal.returns-clause-within
returns-clause-within c = spread_within c.args.self.now _ c.args.size c.requires.within c.in_ok-entries.ensures.len c.in_ok-entries.ensures.each
