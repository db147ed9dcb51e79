use Rattle.tri_solve.proofs.Neighbours.{two_passes}
use Rattle.tri_solve.proofs.laws.two_passes_are_enough.Goals as goal

pub returns : goal.returns
returns c = λ points arcs order joined bound below apart once all tests edge least i p lt within. two_passes points arcs order joined bound below apart once all tests edge least i p lt within
