use Rattle.std.proofs.Common.{◌≡◌, ℕ, List, ◌<◌, true, None, get_or}
use Rattle.stn_walk.specs.Eliminations.{is_in}
use Rattle.shared_graph.specs.declared.events.Phase.TheVariants.{Order}
use Rattle.shared_graph.specs.Interfaces.{Summary, points_of}
use Rattle.shared_graph.specs.Journals.{AgreeWith, IsFinished}
use Rattle.shared_graph.specs.Together.{IsAllPublished}
use Rattle.shared_graph.proofs.shared.Shared.eliminate_all.Given as goal

-- the steps so far are the least ones, and the points so far are eliminated
abbrev pub invariant-loop-n : goal.invariant-loop-n
invariant-loop-n g l = record {
  finished : (summaries : List Summary) → AgreeWith summaries l.fn.self.state → IsFinished summaries Order l.fn.self l.self;
  face : l.self.face ≡ l.fn.self.face;
  going : l.self.state.stop ≡ None;
  all : IsAllPublished l.self.face l.self.state;
  before : (m : ℕ) → m < l.n → is_in l.self.state.order (get_or (points_of l.self.face) m 0) ≡ true;
}
