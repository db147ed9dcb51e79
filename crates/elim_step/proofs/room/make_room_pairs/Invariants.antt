use Rattle.std.specs.Prelude.{◌≡◌, ◌≢◌, ℕ, true, take}
use Rattle.stn_walk.specs.Eliminations.{is_in}
use Rattle.elim_step.proofs.room.make_room_pairs.Given as goal

abbrev pub invariant-loop-i : goal.invariant-loop-i
invariant-loop-i g l = record {
  cells : (p q : ℕ) → g.R.Rows.at l.rows p q ≡ g.R.Rows.at l.initial.rows p q;
  places : g.R.Rows.places l.rows ≡ g.R.Rows.places l.initial.rows;
  roomy : g.R.Rows.is_roomy l.rows ≡ g.R.Rows.is_roomy l.initial.rows;
  room : (i j : ℕ) → is_in (take l.i-index l.places) i ≡ true → is_in l.others j ≡ true → i ≢ j → g.R.Rows.has_room l.rows i j ≡ true;
  other_room : (p q : ℕ) → g.R.Rows.has_room l.initial.rows p q ≡ true → g.R.Rows.has_room l.rows p q ≡ true;
}
