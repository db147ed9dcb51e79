use Rattle.std.proofs.Common.{◌≡◌, List, None}
use Rattle.shared_graph.specs.declared.events.Phase.TheVariants.{Order, Reverse}
use Rattle.shared_graph.specs.Histories.{unvisited_in}
use Rattle.shared_graph.specs.Interfaces.{Summary}
use Rattle.shared_graph.specs.Journals.{AgreeWith, IsDone, IsFinished}
use Rattle.shared_graph.proofs.shared.Shared.revisit_all.Given as goal

-- the steps so far are the least ones
abbrev pub invariant-loop-point : goal.invariant-loop-point
invariant-loop-point g l = record {
  finished : (summaries : List Summary) → AgreeWith summaries l.fn.self.state → IsFinished summaries Reverse l.fn.self l.self;
  going : l.self.state.stop ≡ None;
  done : IsDone l.self.face l.self.state Order;
}

abbrev pub decreases-loop-point : goal.decreases-loop-point
decreases-loop-point g l = unvisited_in l.self.face l.self.state
