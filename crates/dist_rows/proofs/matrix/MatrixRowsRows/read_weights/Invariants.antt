use Rattle.std.proofs.Common.{◌≡◌, ℕ, ◌<◌, length}
use Rattle.std.specs.Prelude.{pos, slice_index_or}
use Rattle.dist_rows.specs.Cells.{weight_in}
use Rattle.dist_rows.specs.Matrix.{cell_at}
use Rattle.dist_rows.proofs.matrix.MatrixRowsRows.read_weights.Given as goal

abbrev pub invariant-loop-n : goal.invariant-loop-n
invariant-loop-n l = record {
  len : length l.weights ≡ length l.others;
  weights : (m : ℕ) → m < l.n → slice_index_or l.weights m (pos 0) ≡ weight_in (cell_at l.self.size l.self.slots.items l.i (slice_index_or l.others m 0));
}
