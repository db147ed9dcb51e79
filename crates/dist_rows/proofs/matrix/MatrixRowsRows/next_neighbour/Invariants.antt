use Rattle.std.specs.Prelude.{◌≡◌, ℕ, ◌<◌, false}
use Rattle.dist_rows.specs.Cells.{are_neighbours, IsAbove}
use Rattle.dist_rows.specs.Matrix.{cell_at}
use Rattle.dist_rows.proofs.matrix.MatrixRowsRows.next_neighbour.Given as goal

abbrev pub invariant-loop-n : goal.invariant-loop-n
invariant-loop-n l = (m : ℕ) → m < l.n → IsAbove m l.fn.after → are_neighbours (cell_at l.self.size l.self.slots.items) l.i m ≡ false
