use Rattle.std.proofs.Common.{◌≡◌, ℕ, ◌<◌, ◌||◌, ◌&&◌, ◌==◌, not, true, length, take}
use Rattle.stn_model.specs.Arcs.{from_at, to_at}
use Rattle.stn_walk.specs.Joins.{has_edge}
use Rattle.elim_step.specs.Eliminated.{point_at}
use Rattle.elim_step.specs.JoinedPlaces.{is_joined}
use Rattle.shared_graph.proofs.lay.open_arcs.Given as goal

abbrev pub invariant-loop-n : goal.invariant-loop-n
invariant-loop-n g l = record {
  places : g.R.Rows.places l.rows ≡ length l.points;
  size : l.joins.size ≡ length l.points;
  cells : (p q : ℕ) → g.R.Rows.at l.rows p q ≡ g.R.Rows.at l.fn.rows p q;
  room : (m p q : ℕ) → m < l.n → p < length l.points → q < length l.points → from_at l.arcs m ≡ point_at l.points p
      → to_at l.arcs m ≡ point_at l.points q → g.R.Rows.has_room l.rows p q ≡ true;
  joined : (p q : ℕ) → p < length l.points → q < length l.points
      → is_joined l.joins p q ≡ (is_joined l.fn.joins p q || (not (p == q) && has_edge (take l.n l.arcs) (point_at l.points p) (point_at l.points q)));
}
