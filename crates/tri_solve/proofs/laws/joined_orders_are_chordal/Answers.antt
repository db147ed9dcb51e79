use Rattle.tri_solve.proofs.Neighbours.{chordal}
use Rattle.tri_solve.proofs.laws.joined_orders_are_chordal.Goals as goal

pub returns : goal.returns
returns c = λ arcs order joined tests once ends. chordal arcs order joined tests once ends
