use Rattle.stn_walk.proofs.Eliminations.{cell-least}
use Rattle.stn_walk.proofs.laws.cells_are_least.Goals as goal

pub returns : goal.returns
returns c = λ arcs es none_below i j. cell-least arcs es none_below i j
