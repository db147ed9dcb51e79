use Rattle.conflict_cycle.proofs.MadeParts.{AreFinalsBelow}
use Rattle.conflict_cycle.proofs.tests.finals_of.Given as goal

abbrev pub invariant-loop-told : goal.invariant-loop-told
invariant-loop-told l = AreFinalsBelow l.fn.shared.face l.fn.shared.state l.fn.summary l.told-index l.finals.items
