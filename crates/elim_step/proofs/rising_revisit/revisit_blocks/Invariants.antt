use Rattle.std.specs.Prelude.{◌≡◌, ℕ, ◌+◌, ◌-◌, ◌*◌, ◌≤◌, take, length}
use Rattle.elim_step.specs.RevisitRows.{rows_after}
use Rattle.elim_step.proofs.rising_revisit.revisit_blocks.Given as goal

abbrev pub invariant-walk : goal.invariant-walk
invariant-walk g l = record {
  within : l.from ≤ length l.later;
  cells : (p q : ℕ) → g.R.Rows.at l.finals p q
      ≡ rows_after (g.R.Rows.at l.forward) l.k l.later (take l.from l.later) (g.R.Rows.at l.initial.finals) p q;
  room : (p q : ℕ) → g.R.Rows.has_room l.finals p q ≡ g.R.Rows.has_room l.initial.finals p q;
  places : g.R.Rows.places l.finals ≡ g.R.Rows.places l.initial.finals;
  roomy : g.R.Rows.is_roomy l.finals ≡ g.R.Rows.is_roomy l.initial.finals;
  steps : l.steps ≡ l.initial.steps + 2 * length l.later * l.from;
}

abbrev pub decreases-walk : goal.decreases-walk
decreases-walk g l = length l.later - l.from
