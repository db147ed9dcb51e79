use Rattle.std.specs.Prelude.{◌≡◌}
use Rattle.dist_rows.specs.Cells.{AllLight}
use Rattle.elim_step.proofs.tests.fill.Given as goal

abbrev pub invariant-loop-from : goal.invariant-loop-from
invariant-loop-from g l = record {
  places : g.R.Rows.places l.rows ≡ g.R.Rows.places l.initial.rows;
  light : AllLight 99 (g.R.Rows.at l.rows);
}
