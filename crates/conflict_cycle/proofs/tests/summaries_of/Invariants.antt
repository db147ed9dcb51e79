use Rattle.conflict_cycle.proofs.ReducedParts.{TellBelow}
use Rattle.conflict_cycle.proofs.tests.summaries_of.Given as goal

abbrev pub invariant-loop-part : goal.invariant-loop-part
invariant-loop-part l = TellBelow l.fn.net l.reduced l.part-index l.summaries.items
