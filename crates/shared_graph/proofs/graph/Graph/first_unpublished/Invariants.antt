use Rattle.std.proofs.Common.{◌≡◌, ℕ, ◌<◌, true}
use Rattle.shared_graph.specs.States.{is_published}
use Rattle.shared_graph.proofs.graph.Graph.first_unpublished.Given as goal

-- no agent before this one is left
abbrev pub invariant-loop-agent : goal.invariant-loop-agent
invariant-loop-agent g l = (a : ℕ) → a < l.agent → is_published l.self.state a ≡ true
