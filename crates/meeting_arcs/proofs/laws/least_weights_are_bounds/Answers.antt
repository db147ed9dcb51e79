use Rattle.meeting_arcs.proofs.Agreements.{weights_are_bounds}
use Rattle.meeting_arcs.proofs.laws.least_weights_are_bounds.Goals as goal

pub returns : goal.returns
returns c = λ net valid summaries right meeting is s i j b start end apart. weights_are_bounds net valid summaries meeting right is i j start end apart s b
