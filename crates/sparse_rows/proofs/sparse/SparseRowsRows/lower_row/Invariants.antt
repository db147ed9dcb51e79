use Rattle.std.proofs.Common.{◌≡◌, ℕ, ◌<◌, ◌≤◌, length, drop}
use Rattle.dist_rows.specs.Cells.{offer_at}
use Rattle.dist_rows.specs.Turns.{all_offered}
use Rattle.sparse_rows.specs.Entries.{place_at}
use Rattle.sparse_rows.specs.SparseMaps.{row_of, cells_of, rooms_of}
use Rattle.sparse_rows.proofs.sparse.SparseRowsRows.lower_row.Given as goal

abbrev pub invariant-loop-n : goal.invariant-loop-n
invariant-loop-n l = record {
  size : l.self.size ≡ l.initial.self.size;
  cells : (p q : ℕ) → all_offered l.fn.i l.fn.k l.fn.by (drop l.n l.fn.offers) (cells_of l.self.rows.items) p q
      ≡ all_offered l.fn.i l.fn.k l.fn.by l.fn.offers (cells_of l.initial.self.rows.items) p q;
  room : (p q : ℕ) → rooms_of l.self.rows.items p q ≡ rooms_of l.initial.self.rows.items p q;
  within : l.at ≤ length (row_of l.self.rows.items l.i);
  before : (m q : ℕ) → l.n ≤ m → m < length l.fn.offers → q < l.at → place_at (row_of l.self.rows.items l.i) q < (offer_at l.fn.offers m).place;
}
