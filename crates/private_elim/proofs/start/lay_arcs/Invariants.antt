use Rattle.std.proofs.Common.{◌≡◌, ℕ, true}
use Rattle.elim_step.specs.JoinedPlaces.{is_joined}
use Rattle.private_elim.specs.Laid.{IsLaid}
use Rattle.private_elim.proofs.start.lay_arcs.Given as goal

abbrev pub invariant-loop-k : goal.invariant-loop-k
invariant-loop-k g l = record {
  size : g.R.Rows.places l.rows ≡ g.R.Rows.places l.initial.rows;
  joins_size : l.joins.size ≡ l.initial.joins.size;
  room : (p q : ℕ) → is_joined l.joins p q ≡ true → g.R.Rows.has_room l.rows p q ≡ true;
  laid : IsLaid l.local l.k (g.R.Rows.at l.rows) (is_joined l.joins);
}
