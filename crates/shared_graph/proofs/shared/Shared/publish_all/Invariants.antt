use Rattle.std.proofs.Common.{◌≡◌, ℕ, ◌<◌, true, None}
use Rattle.shared_graph.specs.declared.events.Phase.TheVariants.{Order}
use Rattle.shared_graph.specs.Journals.{IsFinished}
use Rattle.shared_graph.specs.States.{is_published}
use Rattle.shared_graph.proofs.shared.Shared.publish_all.Given as goal

-- the steps so far are the least ones, and the agents so far have published
abbrev pub invariant-loop-agent : goal.invariant-loop-agent
invariant-loop-agent l = record {
  finished : IsFinished l.summaries Order l.fn.self l.self;
  going : l.self.state.stop ≡ None;
  before : (a : ℕ) → a < l.agent → is_published l.self.state a ≡ true;
}
