use Rattle.std.proofs.Common.{◌≡◌, ◌++◌, map, take}
use Rattle.shared_graph.specs.Interfaces.{points_of}
use Rattle.shared_graph.specs.States.{agent_pairs, summary_arc}
use Rattle.shared_graph.proofs.lay.agent_arcs.Given as goal

abbrev pub invariant-loop-point : goal.invariant-loop-point
invariant-loop-point l = l.arcs.items ≡ agent_pairs l.interface l.agent.0 (map (λ p. p.0) (take l.point-index l.point-items))

abbrev pub invariant-loop-entry : goal.invariant-loop-entry
invariant-loop-entry l =
    l.arcs.items ≡ agent_pairs l.interface l.fn.agent.0 (points_of l.interface) ++ map summary_arc (take l.entry-index l.entry-items)
