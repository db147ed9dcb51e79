use Rattle.std.proofs.Common.{◌≡◌, ℕ, ◌<◌, ◌≤◌, false, None, length, drop}
use Rattle.stn_walk.specs.Eliminations.{is_in}
use Rattle.elim_step.specs.Eliminated.{point_at}
use Rattle.elim_step.specs.Ranked.{key_at}
use Rattle.shared_graph.specs.Graphs.{places_in}
use Rattle.shared_graph.specs.Readiness.{revisit_key}
use Rattle.shared_graph.proofs.graph.Graph.renew.Given as goal

-- the keys are right but for those of the neighbours that are left
abbrev pub invariant-loop-n : goal.invariant-loop-n
invariant-loop-n g l = record {
  size : l.ready.size ≡ l.fn.ready.size;
  right : (k : ℕ) → k < length (places_in l.self.face) → is_in (drop l.n l.list.items) k ≡ false
      → key_at l.ready k ≡ revisit_key l.self.face l.self.state (point_at (places_in l.self.face) k);
  none : (k : ℕ) → length (places_in l.self.face) ≤ k → key_at l.ready k ≡ None;
}
