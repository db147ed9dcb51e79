use Rattle.std.specs.Prelude.{◌≡◌}
use Rattle.dist_rows.specs.Cells.{AllLight}
use Rattle.dist_rows.specs.Matrix.{cell_at}
use Rattle.elim_step.proofs.tests.star.Given as goal

abbrev pub invariant-loop-i : goal.invariant-loop-i
invariant-loop-i g l = record {
  places : l.rows.size ≡ 70;
  light : AllLight 99 (cell_at l.rows.size l.rows.slots.items);
}
