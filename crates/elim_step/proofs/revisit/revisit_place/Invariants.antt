use Rattle.std.specs.Prelude.{◌≡◌, ℕ, ◌+◌, ◌*◌, take}
use Rattle.elim_step.specs.Revisits.{place_after}
use Rattle.elim_step.proofs.revisit.revisit_place.Given as goal

abbrev pub invariant-loop-m : goal.invariant-loop-m
invariant-loop-m g l = record {
  cells : (p q : ℕ) → g.R.Rows.at l.finals p q ≡ place_after (g.R.Rows.at l.forward) l.k l.j (take l.m-index l.later) (g.R.Rows.at l.initial.finals) p q;
  room : (p q : ℕ) → g.R.Rows.has_room l.finals p q ≡ g.R.Rows.has_room l.initial.finals p q;
  places : g.R.Rows.places l.finals ≡ g.R.Rows.places l.initial.finals;
  roomy : g.R.Rows.is_roomy l.finals ≡ g.R.Rows.is_roomy l.initial.finals;
  steps : l.steps ≡ l.initial.steps + 2 * l.m-index;
}
