use Rattle.stn_model.proofs.Bridges.{IsArcWalk-from_walk, arcs_weight-map}
use Rattle.stn_model.proofs.laws.walks_have_arcs.Goals as goal

pub returns : goal.returns
returns c = λ arcs i j ns w. (IsArcWalk-from_walk arcs i j ns w, arcs_weight-map arcs ns)
