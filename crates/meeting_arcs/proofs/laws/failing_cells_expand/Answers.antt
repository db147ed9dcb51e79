use Rattle.meeting_arcs.proofs.Agreements.{failing_cells}
use Rattle.meeting_arcs.proofs.laws.failing_cells_expand.Goals as goal

pub returns : goal.returns
returns c = λ net valid summaries entries meeting only. failing_cells net valid summaries meeting entries only
