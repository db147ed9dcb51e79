use Rattle.std.proofs.Common.{◌-◌, map, option_map}
use Rattle.stn_model.specs.Net.{point_count}
use Rattle.joined_answer.specs.LeastBounds.{AreBoundsTo}
use Rattle.joined_answer.proofs.BoundLists.{first_after}
use Rattle.joined_answer.proofs.joined.Joined.add_edges_from.Given as goal

abbrev pub invariant-row : goal.invariant-row
invariant-row l = AreBoundsTo l.self.network (map (λ p. p.0) l.self.order) l.i.0 (first_after (option_map (λ p. p.0) l.after)) l.edges.items

abbrev pub decreases-row : goal.decreases-row
decreases-row l = point_count l.self.network - first_after (option_map (λ p. p.0) l.after)
