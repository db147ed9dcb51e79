use Rattle.std.proofs.Common.{◌≡◌, ℕ, ◌<◌, true}
use Rattle.shared_graph.specs.Publications.{entries_in}
use Rattle.shared_graph.specs.Replays.{summary_of}
use Rattle.shared_graph.specs.States.{is_published}
use Rattle.shared_graph.proofs.shared.Shared.agrees_with.Given as goal

-- the agents so far agree
abbrev pub invariant-loop-agent : goal.invariant-loop-agent
invariant-loop-agent l = (a : ℕ) → a < l.agent → is_published l.self.state a ≡ true → entries_in l.self.state.published a ≡ summary_of l.summaries a
