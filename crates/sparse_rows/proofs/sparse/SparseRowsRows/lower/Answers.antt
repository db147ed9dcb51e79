use Rattle.std.proofs.Common.{ap, ◌∙◌, List}
use Rattle.sparse_rows.specs.declared.entry.Entry.{Entry}
use Rattle.sparse_rows.specs.Entries.{opens}
use Rattle.sparse_rows.specs.SparseMaps.{are_within}
use Rattle.sparse_rows.proofs.RowSets.{kept_lowered, row_read, stays}
use Rattle.sparse_rows.proofs.sparse.SparseRowsRows.lower.Goals as goal

pub invariant_of-self : goal.invariant_of-self
invariant_of-self c =
    let there = are_within _ c.args.self.now.rows.items c.args.self.now.kept c.args.i c.args.j c.requires.room in
    record {
      kept = kept_lowered _ _ _ c.args.j _ _ c.args.cell c.args.self.now.kept there.0 c.index_mut.ensures.value
          c.lower.ensures.rising c.lower.ensures.known c.lower.ensures.room c.lower.ensures.cells c.requires.light;
    }

pub returns-clause-room : goal.returns-clause-room
returns-clause-room c =
    let rows = c.args.self.now.rows.items in
    let there = are_within _ rows c.args.self.now.kept c.args.i c.args.j c.requires.room in
    let is = row_read _ rows c.args.self.now.kept c.args.i there.0 _ c.index_mut.ensures.value in
    stays opens rows c.args.i _ (rw c.args.self.now.kept.len there.0) (λ q. c.lower.ensures.room q ∙ ap (λ (y : List Entry). opens y q) is)
