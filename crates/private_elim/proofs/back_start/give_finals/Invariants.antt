use Rattle.std.proofs.Common.{◌≡◌, ℕ, true, take}
use Rattle.private_elim.specs.Sweeps.{HasGiven}
use Rattle.private_elim.proofs.back_start.give_finals.Given as goal

abbrev pub invariant-loop-n : goal.invariant-loop-n
invariant-loop-n g l = record {
  size : g.R.Rows.places l.finals ≡ g.R.Rows.places l.initial.finals;
  room : (p q : ℕ) → g.R.Rows.has_room l.initial.finals p q ≡ true → g.R.Rows.has_room l.finals p q ≡ true;
  given : HasGiven l.local (take l.n l.entries) (g.R.Rows.at l.finals);
}
