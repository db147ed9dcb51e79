use Rattle.dispatcher.specs.Falling.{Falls}
use Rattle.dispatcher.proofs.falling.sweep.Given as goal

abbrev pub invariant-loop-n : goal.invariant-loop-n
invariant-loop-n l = Falls l.arcs l.initial.labels.items l.labels.items
