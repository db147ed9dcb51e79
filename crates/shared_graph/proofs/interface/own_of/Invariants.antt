use Rattle.std.proofs.Common.{map, take}
use Rattle.shared_graph.specs.Views.{listed_from, AreOwn}
use Rattle.shared_graph.proofs.interface.own_of.Given as goal

-- the lists of the rows so far
abbrev pub invariant-loop-p : goal.invariant-loop-p
invariant-loop-p l = AreOwn l.agents (listed_from 0 (take l.p l.owners)) (map (λ x. x.items) l.own.items)
