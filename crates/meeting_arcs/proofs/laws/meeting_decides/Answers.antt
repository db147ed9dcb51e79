use Rattle.meeting_arcs.proofs.Agreements.{decides}
use Rattle.meeting_arcs.proofs.laws.meeting_decides.Goals as goal

pub returns : goal.returns
returns c = λ net valid summaries right meeting is. decides net valid summaries meeting right is
