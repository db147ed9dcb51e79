use Rattle.tri_solve.proofs.TwoPasses.{no_path_lighter}
use Rattle.tri_solve.proofs.laws.no_path_is_lighter.Goals as goal

pub returns : goal.returns
returns c = λ arcs joined bound order least chordal i here p ps g. no_path_lighter arcs joined bound least order chordal i here p ps g
