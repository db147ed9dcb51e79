use Rattle.std.proofs.Common.{◌≡◌, ◌∙◌, ap, arith, rules, List, length-set, to_z, of_z}
use Rattle.std.specs.Prelude.{pos, slice_index_or}
use Rattle.std.specs.Int.{w128}
use Rattle.std.proofs.lemmas.Int.{ints}
use Rattle.dist_rows.specs.Cells.{weight_in}
use Rattle.dist_rows.proofs.Lists.{set-done}
use Rattle.sparse_rows.specs.declared.entry.Entry.{Entry}
use Rattle.sparse_rows.specs.Entries.{cell_at}
use Rattle.sparse_rows.specs.SparseMaps.{cells_of}
use Rattle.sparse_rows.proofs.RowSets.{upto_later}
use Rattle.sparse_rows.proofs.sparse.SparseRowsRows.read_weights.Goals as goal

pub loop-n-preserved : goal.loop-n-preserved
loop-n-preserved c =
    let rows = c.args.self.now.rows.items in
    let n = c.loop-n.n in
    let j = slice_index_or c.args.others.now n 0 in
    let now = c.loop-n.weights in
    let was = c.loop-n.invariant in
    let read = c.weight_from-next in
    let kept : to_z w128 (of_z w128 read.result.1) ≡ read.result.1 = omega (arith, ints) in
    record {
      len = length-set now n _ ∙ was.len;
      weights = set-done (λ m. weight_in (cells_of rows c.args.i (slice_index_or c.args.others.now m 0))) now n (pos 0) _
          (search rules) was.weights (kept ∙ read.ensures.value ∙ ap (λ (es : List Entry). weight_in (cell_at es j)) c.row-row.ensures.value);
      within = read.ensures.next.within;
      before = λ m q later there less. upto_later c.args.others.now n m _ 0 c.requires.rising c.loop-n-test.true (read.ensures.next.below q less)
          later there;
    }
