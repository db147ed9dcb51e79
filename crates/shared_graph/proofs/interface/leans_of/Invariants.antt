use Rattle.std.proofs.Common.{◌≡◌, map, take}
use Rattle.shared_graph.proofs.interface.leans_of.Given as goal

abbrev pub invariant-loop-a : goal.invariant-loop-a
invariant-loop-a l = l.leans.items ≡ map (λ a. a.lean) (take l.a l.net.agents)
