use Rattle.conflict_cycle.proofs.PartLists.{AreKnownBelow}
use Rattle.conflict_cycle.proofs.parts.know_reduced.Given as goal

abbrev pub invariant-loop-part : goal.invariant-loop-part
invariant-loop-part l = AreKnownBelow l.reduced l.part-index
