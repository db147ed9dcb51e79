use Rattle.plain_solve.specs.QueueFacts.{IsQueue}
use Rattle.plain_solve.proofs.queue.enqueue_all.Given as goal

abbrev pub invariant-loop-point : goal.invariant-loop-point
invariant-loop-point l = IsQueue l.graph l.queue
