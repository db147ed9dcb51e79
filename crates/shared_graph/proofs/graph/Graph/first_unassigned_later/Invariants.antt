use Rattle.std.proofs.Common.{◌≡◌, ℕ, ◌<◌, get_or}
use Rattle.shared_graph.proofs.graph.Graph.first_unassigned_later.Given as goal

-- no neighbour before this one is another point than z
abbrev pub invariant-loop-m : goal.invariant-loop-m
invariant-loop-m g l = (j : ℕ) → j < l.m-index → get_or l.m-items j 0 ≡ 0
