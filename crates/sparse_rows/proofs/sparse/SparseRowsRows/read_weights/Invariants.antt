use Rattle.std.proofs.Common.{◌≡◌, ℕ, ◌<◌, ◌≤◌, length}
use Rattle.std.specs.Prelude.{pos, slice_index_or}
use Rattle.dist_rows.specs.Cells.{weight_in}
use Rattle.sparse_rows.specs.Entries.{place_at}
use Rattle.sparse_rows.specs.SparseMaps.{cells_of}
use Rattle.sparse_rows.proofs.sparse.SparseRowsRows.read_weights.Given as goal

abbrev pub invariant-loop-n : goal.invariant-loop-n
invariant-loop-n l = record {
  len : length l.weights ≡ length l.others;
  weights : (m : ℕ) → m < l.n → slice_index_or l.weights m (pos 0) ≡ weight_in (cells_of l.self.rows.items l.i (slice_index_or l.others m 0));
  within : l.from ≤ length l.row;
  before : (m q : ℕ) → l.n ≤ m → m < length l.others → q < l.from → place_at l.row q < slice_index_or l.others m 0;
}
