use Rattle.std.proofs.Common.{◌≡◌, ◌≢◌, ℕ, ◌<◌, true, length}
use Rattle.private_elim.specs.SummaryRows.{joined_at}
use Rattle.private_elim.proofs.elimination.Elimination.make_room_all.Given as goal

abbrev pub invariant-loop-place : goal.invariant-loop-place
invariant-loop-place g l = record {
  size : g.R.Rows.places l.finals ≡ g.R.Rows.places l.initial.finals;
  cells : (p q : ℕ) → g.R.Rows.at l.finals p q ≡ g.R.Rows.at l.initial.finals p q;
  room : (p q : ℕ) → p < l.place → q < length l.self.local.points → p ≢ q → joined_at l.self p q ≡ true → g.R.Rows.has_room l.finals p q ≡ true;
}
