use Rattle.conflict_cycle.proofs.ReducedParts.{AreReducedBelow}
use Rattle.conflict_cycle.proofs.tests.all_reduced.Given as goal

abbrev pub invariant-loop-agent : goal.invariant-loop-agent
invariant-loop-agent l = AreReducedBelow l.net l.agent l.all.items
