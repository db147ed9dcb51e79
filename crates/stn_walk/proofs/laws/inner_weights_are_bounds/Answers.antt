use Rattle.stn_walk.proofs.Distances.{inner_least_bound, bound_inner_least}
use Rattle.stn_walk.proofs.laws.inner_weights_are_bounds.Goals as goal

pub returns : goal.returns
returns c = λ points arcs below s i j b ne. (λ l. inner_least_bound points arcs below s i j b ne l, λ l. bound_inner_least points arcs i j b ne l)
