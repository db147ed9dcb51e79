use Rattle.std.proofs.Common.{◌≡◌, map, take}
use Rattle.shared_graph.proofs.interface.copy_own.Given as goal

abbrev pub invariant-loop-list : goal.invariant-loop-list
invariant-loop-list l = map (λ x. x.items) l.copies.items ≡ map (λ x. x.items) (take l.list-index l.own)
