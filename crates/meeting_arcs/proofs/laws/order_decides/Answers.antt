use Rattle.meeting_arcs.proofs.Agreements.{order_decides}
use Rattle.meeting_arcs.proofs.laws.order_decides.Goals as goal

pub returns : goal.returns
returns c = λ net valid summaries right meeting is. order_decides net valid summaries meeting right is
