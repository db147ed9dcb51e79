use Rattle.std.specs.Prelude.{◌≡◌, ◌≢◌, ℕ, ◌-◌, ◌<◌, ◌≤◌, true}
use Rattle.elim_step.specs.Eliminates.{is_neighbour}
use Rattle.stn_walk.specs.Eliminations.{is_in}
use Rattle.elim_step.specs.Blocks.{items_of, IsBlock}
use Rattle.elim_step.proofs.room.make_room_rows.Given as goal

abbrev pub invariant-walk : goal.invariant-walk
invariant-walk g l = record {
  cells : (p q : ℕ) → g.R.Rows.at l.rows p q ≡ g.R.Rows.at l.initial.rows p q;
  places : g.R.Rows.places l.rows ≡ g.R.Rows.places l.initial.rows;
  roomy : g.R.Rows.is_roomy l.rows ≡ g.R.Rows.is_roomy l.initial.rows;
  room : (i j : ℕ) → is_in l.places i ≡ true → j < l.others.from → is_neighbour l.remain (g.R.Rows.at l.initial.rows) l.k j ≡ true → i ≢ j
      → g.R.Rows.has_room l.rows i j ≡ true;
  other_room : (p q : ℕ) → g.R.Rows.has_room l.initial.rows p q ≡ true → g.R.Rows.has_room l.rows p q ≡ true;
  block : IsBlock (is_neighbour l.remain (g.R.Rows.at l.initial.rows) l.k) l.others.from l.others.end (items_of l.others);
  within : l.others.end ≤ g.R.Rows.places l.initial.rows;
}

abbrev pub decreases-walk : goal.decreases-walk
decreases-walk g l = l.size - l.others.end
