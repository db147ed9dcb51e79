use Rattle.std.proofs.Common.{◌≡◌, ◌≤◌, length}
use Rattle.shared_graph.specs.States.{is_published, published_in}
use Rattle.shared_graph.specs.Publications.{entries_in}
use Rattle.shared_graph.proofs.graphs.Publishers.{told_of}
use Rattle.shared_graph.proofs.graph.Graph.published.Given as goal

abbrev pub decreases-loop-n : goal.decreases-loop-n
decreases-loop-n g l = l.n

abbrev pub invariant-loop-n : goal.invariant-loop-n
invariant-loop-n g l = record {
  within : l.n ≤ length l.self-inside.published.items;
  same : is_published l.self.state l.agent.0 ≡ published_in (told_of l.self-inside.published.items l.n) l.agent.0;
  found : entries_in l.self.state.published l.agent.0 ≡ entries_in (told_of l.self-inside.published.items l.n) l.agent.0;
}
