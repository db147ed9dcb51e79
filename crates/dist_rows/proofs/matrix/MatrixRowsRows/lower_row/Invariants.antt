use Rattle.std.proofs.Common.{◌≡◌, ℕ, drop}
use Rattle.dist_rows.specs.Turns.{all_offered}
use Rattle.dist_rows.specs.Matrix.{cell_at}
use Rattle.dist_rows.proofs.matrix.MatrixRowsRows.lower_row.Given as goal

abbrev pub invariant-loop-n : goal.invariant-loop-n
invariant-loop-n l = record {
  size : l.self.size ≡ l.initial.self.size;
  cells : (p q : ℕ) → all_offered l.fn.i l.fn.k l.fn.by (drop l.n l.fn.offers) (cell_at l.self.size l.self.slots.items) p q
      ≡ all_offered l.fn.i l.fn.k l.fn.by l.fn.offers (cell_at l.initial.self.size l.initial.self.slots.items) p q;
}
