use Rattle.std.proofs.Common.{◌≡◌, ℕ, drop, true}
use Rattle.sparse_rows.specs.Entries.{knows}
use Rattle.dist_rows.specs.Turns.{all_roomed}
use Rattle.sparse_rows.specs.SparseMaps.{row_of, cells_of, rooms_of}
use Rattle.sparse_rows.proofs.sparse.SparseRows.open_among.Given as goal

abbrev pub invariant-loop-n : goal.invariant-loop-n
invariant-loop-n l = record {
  size : l.self.size ≡ l.initial.self.size;
  cells : (p q : ℕ) → cells_of l.self.rows.items p q ≡ cells_of l.initial.self.rows.items p q;
  more : (p q : ℕ) → knows (row_of l.initial.self.rows.items p) q ≡ true → knows (row_of l.self.rows.items p) q ≡ true;
  room : (p q : ℕ) → all_roomed (drop l.n l.list) l.list (rooms_of l.self.rows.items) p q ≡ all_roomed l.list l.list (rooms_of l.initial.self.rows.items) p q;
}
