use Rattle.std.proofs.Common.{arith, ap, ◌≡◌, ◌∙◌, List}
use Rattle.sparse_rows.specs.declared.entry.Entry.{Entry}
use Rattle.sparse_rows.specs.Entries.{place_at}
use Rattle.sparse_rows.specs.SparseMaps.{row_of}
use Rattle.sparse_rows.proofs.RowSets.{place_within}
use Rattle.sparse_rows.proofs.sparse.SparseRows.touches.Goals as goal

pub get-requires : goal.get-requires
get-requires c =
    let rows = c.args.self.now.rows.items in
    let there : c.place.result ≡ place_at (row_of rows c.args.i) c.args.at = c.place.ensures
    ∙ ap (λ (es : List Entry). place_at es c.args.at) c.row-row.ensures.value in
    let low = place_within _ rows c.args.i c.args.at c.args.self.now.kept c.requires.entry in
    (omega (arith, there, low), c.requires.within)
