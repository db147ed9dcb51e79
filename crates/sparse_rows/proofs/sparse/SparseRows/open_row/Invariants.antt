use Rattle.std.proofs.Common.{◌≡◌, ℕ, ◌<◌, ◌≤◌, length, drop, true}
use Rattle.sparse_rows.specs.Entries.{knows, place_at}
use Rattle.std.specs.Prelude.{slice_index_or}
use Rattle.dist_rows.specs.Turns.{row_roomed}
use Rattle.sparse_rows.specs.SparseMaps.{row_of, cells_of, rooms_of}
use Rattle.sparse_rows.proofs.sparse.SparseRows.open_row.Given as goal

abbrev pub invariant-loop-n : goal.invariant-loop-n
invariant-loop-n l = record {
  size : l.self.size ≡ l.initial.self.size;
  cells : (p q : ℕ) → cells_of l.self.rows.items p q ≡ cells_of l.initial.self.rows.items p q;
  more : (p q : ℕ) → knows (row_of l.initial.self.rows.items p) q ≡ true → knows (row_of l.self.rows.items p) q ≡ true;
  room : (p q : ℕ) → row_roomed l.i (drop l.n l.list) (rooms_of l.self.rows.items) p q ≡ row_roomed l.i l.list (rooms_of l.initial.self.rows.items) p q;
  within : l.at ≤ length (row_of l.self.rows.items l.i);
  before : (m q : ℕ) → l.n ≤ m → m < length l.list → q < l.at → place_at (row_of l.self.rows.items l.i) q < slice_index_or l.list m 0;
}
