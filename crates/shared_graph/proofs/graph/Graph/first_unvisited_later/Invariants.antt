use Rattle.std.proofs.Common.{◌≡◌, ℕ, ◌<◌, true, get_or}
use Rattle.shared_graph.specs.Graphs.{flag_at}
use Rattle.shared_graph.proofs.graph.Graph.first_unvisited_later.Given as goal

-- no neighbour before this one is left
abbrev pub invariant-loop-m : goal.invariant-loop-m
invariant-loop-m g l = (j : ℕ) → j < l.m-index → flag_at l.self-inside.done.items (get_or l.m-items j 0) ≡ true
