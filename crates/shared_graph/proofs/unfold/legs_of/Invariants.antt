-- The legs so far.
use Rattle.std.proofs.Common.{◌≡◌, take, map}
use Rattle.shared_graph.specs.Legs.{leg_at}
use Rattle.shared_graph.proofs.unfold.legs_of.Given as goal

abbrev pub invariant-loop-leaf : goal.invariant-loop-leaf
invariant-loop-leaf l = l.legs.items ≡ map (leg_at l.points) (take l.leaf-index l.leaves)
