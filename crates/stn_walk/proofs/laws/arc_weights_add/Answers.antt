use Rattle.stn_walk.proofs.ArcWalks.{GoesOn-append, arcs_weight-append}
use Rattle.stn_walk.proofs.laws.arc_weights_add.Goals as goal

pub returns : goal.returns
returns c = λ inner list i j k v w g h. (GoesOn-append inner list i j k v w g h, arcs_weight-append v w)
