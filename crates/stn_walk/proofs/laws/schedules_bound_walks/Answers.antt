use Rattle.stn_model.proofs.WalkLemmas.{weight_bounds}
use Rattle.stn_walk.proofs.laws.schedules_bound_walks.Goals as goal

pub returns : goal.returns
returns c = λ list times keeps i j ns w. weight_bounds list times keeps i j ns w
