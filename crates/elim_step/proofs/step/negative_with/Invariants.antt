use Rattle.std.specs.Prelude.{◌≡◌, ℕ, ◌-◌, ◌<◌, ◌≤◌, false}
use Rattle.elim_step.specs.Eliminates.{is_below}
use Rattle.elim_step.proofs.step.negative_with.Given as goal

abbrev pub invariant-loop-n : goal.invariant-loop-n
invariant-loop-n g l = record {
  none : (m : ℕ) → m < l.from → is_below l.remain (g.R.Rows.at l.rows) l.k m ≡ false;
  within : l.from ≤ g.R.Rows.places l.rows;
}

abbrev pub decreases-loop-n : goal.decreases-loop-n
decreases-loop-n g l = g.R.Rows.places l.rows - l.from
