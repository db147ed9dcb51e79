use Rattle.std.specs.Prelude.{◌≡◌, ℕ, length, None}
use Rattle.elim_step.specs.Rankings.{node_at}
use Rattle.elim_step.proofs.ranking.Ranking.new.Given as goal

abbrev pub invariant-loop-n : goal.invariant-loop-n
invariant-loop-n l = record {
  len : length l.nodes.items ≡ l._n;
  none : (n : ℕ) → node_at l.nodes.items n ≡ None;
}
