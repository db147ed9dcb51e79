use Rattle.meeting_arcs.proofs.Agreements.{negatives_contract}
use Rattle.meeting_arcs.proofs.laws.negatives_contract.Goals as goal

pub returns : goal.returns
returns c = λ net valid summaries right meeting is. negatives_contract net valid summaries meeting right is
