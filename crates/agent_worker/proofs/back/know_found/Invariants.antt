use Rattle.conflict_cycle.proofs.PartLists.{AreKnownBelow}
use Rattle.agent_worker.proofs.back.know_found.Given as goal

abbrev pub invariant-loop-part : goal.invariant-loop-part
invariant-loop-part l = AreKnownBelow l.reduced l.part-index
