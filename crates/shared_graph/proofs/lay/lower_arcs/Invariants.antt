use Rattle.std.proofs.Common.{◌≡◌, ℕ, ◌<◌, length, take}
use Rattle.stn_walk.specs.Eliminations.{lesser, bound_of}
use Rattle.elim_step.specs.Eliminated.{point_at, weight_at}
use Rattle.shared_graph.specs.Publications.{IsOldOrLaid}
use Rattle.shared_graph.proofs.lay.lower_arcs.Given as goal

abbrev pub invariant-loop-n : goal.invariant-loop-n
invariant-loop-n g l = record {
  places : g.R.Rows.places l.rows ≡ length l.points;
  room : (p q : ℕ) → g.R.Rows.has_room l.rows p q ≡ g.R.Rows.has_room l.fn.rows p q;
  weights : (p q : ℕ) → p < length l.points → q < length l.points
      → weight_at (g.R.Rows.at l.rows p q)
      ≡ lesser (weight_at (g.R.Rows.at l.fn.rows p q)) (bound_of (take l.n l.arcs) (point_at l.points p) (point_at l.points q));
  laid : (p q : ℕ) → IsOldOrLaid l.points l.arcs l.agent p q (g.R.Rows.at l.fn.rows p q) (g.R.Rows.at l.rows p q);
}
