use Rattle.std.proofs.Common.{◌≡◌, ◌≢◌, ℕ, ◌<◌, true}
use Rattle.std.specs.Prelude.{slice_index_or}
use Rattle.sparse_rows.specs.Entries.{knows}
use Rattle.sparse_rows.specs.SparseMaps.{row_of, cells_of, rooms_of}
use Rattle.sparse_rows.proofs.sparse.SparseRows.know_column.Given as goal

abbrev pub invariant-loop-n : goal.invariant-loop-n
invariant-loop-n l = record {
  size : l.self.size ≡ l.initial.self.size;
  cells : (p q : ℕ) → cells_of l.self.rows.items p q ≡ cells_of l.initial.self.rows.items p q;
  room : (p q : ℕ) → rooms_of l.self.rows.items p q ≡ rooms_of l.initial.self.rows.items p q;
  known : (m : ℕ) → m < l.n → l.i ≢ slice_index_or l.list m 0 → knows (row_of l.self.rows.items (slice_index_or l.list m 0)) l.i ≡ true;
}
