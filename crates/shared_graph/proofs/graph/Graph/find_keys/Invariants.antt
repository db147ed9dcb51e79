use Rattle.std.proofs.Common.{◌≡◌, ℕ, ◌<◌, ◌≤◌, None, length}
use Rattle.elim_step.specs.Eliminated.{point_at}
use Rattle.elim_step.specs.Ranked.{key_at}
use Rattle.shared_graph.specs.Graphs.{places_in}
use Rattle.shared_graph.specs.Readiness.{revisit_key}
use Rattle.shared_graph.proofs.graph.Graph.find_keys.Given as goal

-- the places so far have their keys, and past the last one there are none
abbrev pub invariant-loop-place : goal.invariant-loop-place
invariant-loop-place g l = record {
  size : l.ready.size ≡ l.fn.ready.size;
  right : (k : ℕ) → k < l.place → key_at l.ready k ≡ revisit_key l.self.face l.self.state (point_at (places_in l.self.face) k);
  beyond : (k : ℕ) → length (places_in l.self.face) ≤ k → key_at l.ready k ≡ None;
}
