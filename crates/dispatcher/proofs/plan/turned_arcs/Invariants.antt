use Rattle.std.proofs.Common.{◌≡◌, take, map}
use Rattle.dispatcher.specs.Standing.{exchanged}
use Rattle.dispatcher.proofs.plan.turned_arcs.Given as goal

abbrev pub invariant-loop-k : goal.invariant-loop-k
invariant-loop-k l = l.arcs.items ≡ map exchanged (map (λ a. a.arc) (take l.k l.local.arcs))
