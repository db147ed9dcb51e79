use Rattle.std.specs.Prelude.{◌≡◌, ℕ, ◌+◌, ◌*◌, ◌-◌, ◌≤◌, length}
use Rattle.elim_step.specs.Eliminates.{is_neighbour, count_below}
use Rattle.elim_step.specs.Blocks.{items_of, IsBlock}
use Rattle.elim_step.specs.Regions.{region_after}
use Rattle.elim_step.proofs.Lowered.{columns_before}
use Rattle.elim_step.proofs.lower.lower_rows.Given as goal

abbrev pub invariant-walk : goal.invariant-walk
invariant-walk g l = record {
  cells : (p q : ℕ) → g.R.Rows.at l.rows p q
      ≡ region_after l.k (columns_before l.places l.remain (g.R.Rows.at l.initial.rows) l.k l.others.from) (g.R.Rows.at l.initial.rows) p q;
  room : (p q : ℕ) → g.R.Rows.has_room l.rows p q ≡ g.R.Rows.has_room l.initial.rows p q;
  places : g.R.Rows.places l.rows ≡ g.R.Rows.places l.initial.rows;
  roomy : g.R.Rows.is_roomy l.rows ≡ g.R.Rows.is_roomy l.initial.rows;
  steps : l.steps ≡ l.initial.steps + length l.places * count_below (is_neighbour l.remain (g.R.Rows.at l.initial.rows) l.k) l.others.from;
  block : IsBlock (is_neighbour l.remain (g.R.Rows.at l.initial.rows) l.k) l.others.from l.others.end (items_of l.others);
  within : l.others.end ≤ g.R.Rows.places l.initial.rows;
}

abbrev pub decreases-walk : goal.decreases-walk
decreases-walk g l = l.size - l.others.end
