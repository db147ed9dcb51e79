use Rattle.std.specs.Prelude.{◌≡◌, ℕ, ◌*◌, ◌/◌, ◌≤◌, ◌<◌, length}
use Rattle.elim_step.specs.Rankings.{node_at}
use Rattle.elim_step.proofs.Rankings.{AreOtherMatches}
use Rattle.elim_step.proofs.ranking.play.Given as goal

abbrev pub invariant-up : goal.invariant-up
invariant-up l = record {
  len : length l.nodes ≡ 2 * l.size;
  from : 1 ≤ l.node;
  within : l.node < 2 * l.size;
  leaves : (n : ℕ) → l.size ≤ n → node_at l.nodes n ≡ node_at l.initial.nodes n;
  matches : AreOtherMatches l.size l.nodes (l.node / 2);
}

abbrev pub decreases-up : goal.decreases-up
decreases-up l = l.node
