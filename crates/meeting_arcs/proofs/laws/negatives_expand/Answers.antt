use Rattle.meeting_arcs.proofs.Agreements.{negatives_expand}
use Rattle.meeting_arcs.proofs.laws.negatives_expand.Goals as goal

pub returns : goal.returns
returns c = λ net valid summaries entries meeting only. negatives_expand net valid summaries meeting entries only
