use Rattle.meeting_arcs.proofs.Agreements.{meeting_expands}
use Rattle.meeting_arcs.proofs.laws.meeting_arcs_expand.Goals as goal

pub returns : goal.returns
returns c = λ net valid summaries entries meeting only. meeting_expands net valid summaries meeting entries only
