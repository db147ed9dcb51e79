use Rattle.agent_worker.proofs.Telling.{AreToldBelow}
use Rattle.agent_worker.proofs.joiner.told.Given as goal

abbrev pub invariant-loop-agent : goal.invariant-loop-agent
invariant-loop-agent l = AreToldBelow l.shared l.agent l.summaries.items
