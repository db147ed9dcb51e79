use Rattle.stn_walk.proofs.Distances.{network_bound_there}
use Rattle.stn_walk.proofs.laws.least_bounds_are_there.Goals as goal

pub returns : goal.returns
returns c = λ net valid s i j start end. network_bound_there net valid s i j start end
