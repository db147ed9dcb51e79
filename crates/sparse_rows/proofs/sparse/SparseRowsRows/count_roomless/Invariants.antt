use Rattle.std.proofs.Common.{◌≡◌, ℕ, ◌<◌, ◌≤◌, length, take}
use Rattle.std.specs.Prelude.{slice_index_or}
use Rattle.dist_rows.specs.Places.{count_roomless}
use Rattle.sparse_rows.specs.Entries.{place_at}
use Rattle.sparse_rows.specs.SparseMaps.{rooms_of}
use Rattle.sparse_rows.proofs.sparse.SparseRowsRows.count_roomless.Given as goal

abbrev pub invariant-loop-n : goal.invariant-loop-n
invariant-loop-n l = record {
  few : l.count ≤ l.n;
  count : l.count ≡ count_roomless (rooms_of l.self.rows.items) l.i (take l.n l.list);
  within : l.from ≤ length l.row;
  before : (m q : ℕ) → l.n ≤ m → m < length l.list → q < l.from → place_at l.row q < slice_index_or l.list m 0;
}
