use Rattle.std.proofs.Common.{◌-◌, length}
use Rattle.plain_solve.specs.OrderFacts.{IsInOrder}
use Rattle.plain_solve.proofs.order.arrange.Given as goal

abbrev pub invariant-passes : goal.invariant-passes
invariant-passes l = IsInOrder l.graph l.labels.last_arcs.items l.arranged

abbrev pub decreases-passes : goal.decreases-passes
decreases-passes l = l.graph.points - length l.arranged.order.items
