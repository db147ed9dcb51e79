use Rattle.std.specs.Prelude.{◌≡◌, ℕ, ◌+◌, ◌*◌, ◌-◌, ◌≤◌}
use Rattle.elim_step.specs.Eliminates.{is_neighbour, count_below}
use Rattle.elim_step.specs.Blocks.{items_of, IsBlock}
use Rattle.elim_step.specs.Regions.{region_after}
use Rattle.elim_step.proofs.Lowered.{rows_before}
use Rattle.elim_step.proofs.lower.lower_all.Given as goal

abbrev pub invariant-walk : goal.invariant-walk
invariant-walk g l = record {
  cells : (p q : ℕ) → g.R.Rows.at l.rows p q
      ≡ region_after l.k (rows_before l.remain (g.R.Rows.at l.initial.rows) l.k l.block.from) (g.R.Rows.at l.initial.rows) p q;
  room : (p q : ℕ) → g.R.Rows.has_room l.rows p q ≡ g.R.Rows.has_room l.initial.rows p q;
  places : g.R.Rows.places l.rows ≡ g.R.Rows.places l.initial.rows;
  roomy : g.R.Rows.is_roomy l.rows ≡ g.R.Rows.is_roomy l.initial.rows;
  steps : l.steps ≡ l.initial.steps
      + count_below (is_neighbour l.remain (g.R.Rows.at l.initial.rows) l.k) l.block.from * count_below
      (is_neighbour l.remain (g.R.Rows.at l.initial.rows) l.k) (g.R.Rows.places l.initial.rows);
  block : IsBlock (is_neighbour l.remain (g.R.Rows.at l.initial.rows) l.k) l.block.from l.block.end (items_of l.block);
  within : l.block.end ≤ g.R.Rows.places l.initial.rows;
}

abbrev pub decreases-walk : goal.decreases-walk
decreases-walk g l = l.size - l.block.end
