use Rattle.std.proofs.Common.{map}
use Rattle.joined_answer.specs.LeastBounds.{AreBoundsTo}
use Rattle.joined_answer.proofs.joined.Joined.edges.Given as goal

abbrev pub invariant-loop-i : goal.invariant-loop-i
invariant-loop-i l = AreBoundsTo l.self.network (map (λ p. p.0) l.self.order) l.i 0 l.edges.items
