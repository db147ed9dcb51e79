use Rattle.conflict_cycle.proofs.ExternalNumbers.{AreExternalBelow}
use Rattle.conflict_cycle.proofs.join.external_numbers.Given as goal

abbrev pub invariant-loop-n : goal.invariant-loop-n
invariant-loop-n l = AreExternalBelow l.net l.n l.numbers.items
