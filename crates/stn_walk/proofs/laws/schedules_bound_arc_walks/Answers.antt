use Rattle.stn_walk.proofs.ArcWalks.{arcs_weight_bounds}
use Rattle.stn_walk.proofs.laws.schedules_bound_arc_walks.Goals as goal

pub returns : goal.returns
returns c = λ list times keeps i j w g. arcs_weight_bounds list times keeps i j w g
