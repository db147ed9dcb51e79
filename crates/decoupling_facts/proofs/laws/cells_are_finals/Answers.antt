use Rattle.decoupling_facts.proofs.FinalBounds.{cells_final}
use Rattle.decoupling_facts.proofs.laws.cells_are_finals.Goals as goal

pub returns : goal.returns
returns c = λ arcs cell turned ends least. cells_final arcs cell turned ends least
