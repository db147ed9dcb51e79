use Rattle.std.proofs.Common.{◌≡◌, take, map}
use Rattle.dispatcher.proofs.plan.arcs_of.Given as goal

abbrev pub invariant-loop-k : goal.invariant-loop-k
invariant-loop-k l = l.arcs.items ≡ map (λ a. a.arc) (take l.k l.local.arcs)
