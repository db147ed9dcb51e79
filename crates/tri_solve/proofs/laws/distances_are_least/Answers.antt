use Rattle.tri_solve.proofs.TwoPasses.{distances_least}
use Rattle.tri_solve.proofs.laws.distances_are_least.Goals as goal

pub returns : goal.returns
returns c = λ arcs joined bound order least chordal i here p. distances_least arcs joined bound least order chordal i here p
