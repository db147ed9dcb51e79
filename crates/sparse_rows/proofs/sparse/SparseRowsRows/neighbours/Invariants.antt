use Rattle.std.proofs.Common.{◌≡◌, ℕ, ◌≤◌, length, take}
use Rattle.dist_rows.specs.Cells.{are_neighbours}
use Rattle.dist_rows.specs.Places.{IsListing}
use Rattle.sparse_rows.specs.Entries.{IsSought}
use Rattle.sparse_rows.specs.SparseMaps.{row_of, cells_of}
use Rattle.sparse_rows.proofs.sparse.SparseRowsRows.neighbours.Given as goal

abbrev pub invariant-loop-at : goal.invariant-loop-at
invariant-loop-at l = record {
  len : length l.list ≡ length l.initial.list;
  count : l.count ≤ length l.list;
  listed : (b : ℕ) → IsSought (row_of l.self.rows.items l.i) b l.at → IsListing (are_neighbours (cells_of l.self.rows.items) l.i) l.fn.from b
      (take l.count l.list);
}
