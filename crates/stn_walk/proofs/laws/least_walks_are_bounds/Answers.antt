use Rattle.stn_walk.proofs.Distances.{least_walk_bound, bound_least_walk}
use Rattle.stn_walk.proofs.laws.least_walks_are_bounds.Goals as goal

pub returns : goal.returns
returns c = λ points arcs below s i j b. (λ l. least_walk_bound points arcs below s i j b l, λ l. bound_least_walk points arcs i j b l)
