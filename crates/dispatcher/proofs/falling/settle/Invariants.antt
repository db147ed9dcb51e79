use Rattle.dispatcher.specs.Falling.{Falls, room}
use Rattle.dispatcher.proofs.falling.settle.Given as goal

abbrev pub invariant-rounds : goal.invariant-rounds
invariant-rounds l = Falls l.arcs l.initial.labels.items l.labels.items

abbrev pub decreases-rounds : goal.decreases-rounds
decreases-rounds l = room l.labels.items
