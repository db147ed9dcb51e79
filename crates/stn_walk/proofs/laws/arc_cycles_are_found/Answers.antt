use Rattle.stn_walk.proofs.ArcWalks.{arcs_cycle}
use Rattle.stn_walk.proofs.laws.arc_cycles_are_found.Goals as goal

pub returns : goal.returns
returns c = λ list i w g low. arcs_cycle list i w g low
