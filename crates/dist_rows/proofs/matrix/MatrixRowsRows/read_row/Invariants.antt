use Rattle.std.proofs.Common.{◌≡◌, ℕ, ◌<◌, length, None}
use Rattle.std.specs.Prelude.{slice_index_or}
use Rattle.dist_rows.specs.Matrix.{cell_at}
use Rattle.dist_rows.proofs.matrix.MatrixRowsRows.read_row.Given as goal

abbrev pub invariant-loop-n : goal.invariant-loop-n
invariant-loop-n l = record {
  len : length l.cells ≡ length l.others;
  cells : (m : ℕ) → m < l.n → slice_index_or l.cells m None ≡ cell_at l.self.size l.self.slots.items l.i (slice_index_or l.others m 0);
}
