use Rattle.std.proofs.Common.{ap, ◌∙◌}
use Rattle.sparse_rows.specs.Entries.{cell_in}
use Rattle.sparse_rows.proofs.RowEntries.{cell_of_entry}
use Rattle.sparse_rows.proofs.row.Row.cell_here.Goals as goal

pub returns : goal.returns
returns c = c.cell.ensures ∙ ap cell_in c.entry.ensures ∙ cell_of_entry c.args.self.now c.args.at c.requires.rising c.requires.within
