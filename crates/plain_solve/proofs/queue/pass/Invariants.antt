use Rattle.plain_solve.specs.QueueFacts.{GoesOn}
use Rattle.plain_solve.proofs.queue.pass.Given as goal

abbrev pub invariant-loop-i : goal.invariant-loop-i
invariant-loop-i l = GoesOn l.graph l.initial.labels.raises l.labels l.queue
