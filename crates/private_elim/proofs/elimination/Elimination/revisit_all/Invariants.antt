use Rattle.std.proofs.Common.{◌≡◌, ◌≤◌, ℕ, length}
use Rattle.private_elim.specs.Sweeps.{IsSwept}
use Rattle.private_elim.proofs.elimination.Elimination.revisit_all.Given as goal

abbrev pub ghost-revisit : goal.ghost-revisit
ghost-revisit g a = g.entries

abbrev pub invariant-loop-left : goal.invariant-loop-left
invariant-loop-left g l = record {
  within : l.left ≤ length l.self.order;
  size : g.R.Rows.places l.finals ≡ length l.self.local.points;
  room : (p q : ℕ) → g.R.Rows.has_room l.finals p q ≡ g.R.Rows.has_room l.initial.finals p q;
  swept : IsSwept l.self.local l.self.order g.entries l.left (g.R.Rows.at l.finals) l.done.items;
}

abbrev pub decreases-loop-left : goal.decreases-loop-left
decreases-loop-left g l = l.left
