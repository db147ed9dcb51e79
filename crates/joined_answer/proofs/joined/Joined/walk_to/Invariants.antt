use Rattle.std.proofs.Common.{map}
use Rattle.tri_solve.specs.Edges.{ids}
use Rattle.tri_solve.specs.Trees.{dist_of}
use Rattle.joined_answer.proofs.LeastWalks.{IsAlong}
use Rattle.joined_answer.proofs.joined.Joined.walk_to.Given as goal

abbrev pub invariant-loop-k : goal.invariant-loop-k
invariant-loop-k l =
    IsAlong l.fn.self.network (map (λ p. p.0) l.fn.self.order) l.fn.distances.source (dist_of l.fn.distances l.fn.j.0) (ids l.path.items) l.k l.arcs.items
