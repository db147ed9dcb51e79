use Rattle.std.proofs.Common.{◌≡◌, ◌≤◌, length, take}
use Rattle.dist_rows.specs.Cells.{are_neighbours}
use Rattle.dist_rows.specs.Places.{IsListing}
use Rattle.dist_rows.specs.Matrix.{cell_at}
use Rattle.dist_rows.proofs.matrix.MatrixRowsRows.neighbours.Given as goal

abbrev pub invariant-loop-n : goal.invariant-loop-n
invariant-loop-n l = record {
  len : length l.list ≡ length l.initial.list;
  count : l.count ≤ length l.list;
  listed : IsListing (are_neighbours (cell_at l.self.size l.self.slots.items) l.i) l.fn.from l.n (take l.count l.list);
}
