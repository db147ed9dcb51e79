use Rattle.meeting_arcs.proofs.Agreements.{meeting_ends}
use Rattle.meeting_arcs.proofs.laws.meeting_arcs_join.Goals as goal

pub returns : goal.returns
returns c = λ net valid summaries entries meeting only. meeting_ends net valid summaries meeting entries only
