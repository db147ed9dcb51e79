use Rattle.graph_tests.proofs.Fittings.{FitBelow}
use Rattle.graph_tests.proofs.replays.are_fitting.Given as goal

abbrev pub invariant-loop-agent : goal.invariant-loop-agent
invariant-loop-agent l = FitBelow l.face l.summaries l.agent
