use Rattle.std.specs.Prelude.{◌≡◌, ℕ, ◌+◌, ◌-◌, ◌*◌, ◌≤◌, ◌&&◌, take, length}
use Rattle.stn_walk.specs.Eliminations.{is_in}
use Rattle.elim_step.specs.Regions.{region_after}
use Rattle.elim_step.proofs.among.lower_among.Given as goal

abbrev pub invariant-walk : goal.invariant-walk
invariant-walk g l = record {
  within : l.from ≤ length l.list;
  cells : (p q : ℕ) → g.R.Rows.at l.rows p q ≡ region_after l.k (λ a b. is_in l.list a && is_in (take l.from l.list) b) (g.R.Rows.at l.initial.rows) p q;
  room : (p q : ℕ) → g.R.Rows.has_room l.rows p q ≡ g.R.Rows.has_room l.initial.rows p q;
  places : g.R.Rows.places l.rows ≡ g.R.Rows.places l.initial.rows;
  roomy : g.R.Rows.is_roomy l.rows ≡ g.R.Rows.is_roomy l.initial.rows;
  steps : l.steps ≡ l.initial.steps + length l.list * l.from;
}

abbrev pub decreases-walk : goal.decreases-walk
decreases-walk g l = length l.list - l.from
