use Rattle.conflict_cycle.proofs.MadeParts.{AreBackBelow}
use Rattle.conflict_cycle.proofs.tests.swept.Given as goal

abbrev pub invariant-loop-part : goal.invariant-loop-part
invariant-loop-part l = AreBackBelow l.fn.shared.face l.fn.shared.state l.reduced l.part-index l.all.items
