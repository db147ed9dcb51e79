use Rattle.shared_graph.proofs.graphs.Replaying.{IsReplaying}
use Rattle.shared_graph.proofs.shared.Shared.apply_all.Given as goal

abbrev pub invariant-loop-n : goal.invariant-loop-n
invariant-loop-n g l = IsReplaying l.fn.self.face l.summaries l.entries l.n l.self
