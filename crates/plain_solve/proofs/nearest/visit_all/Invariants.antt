use Rattle.plain_solve.specs.QueueFacts.{IsLater}
use Rattle.plain_solve.proofs.nearest.visit_all.Given as goal

abbrev pub invariant-loop-turn : goal.invariant-loop-turn
invariant-loop-turn l = IsLater l.graph l.initial.labels.raises l.labels
