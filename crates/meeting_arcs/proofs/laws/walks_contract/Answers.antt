use Rattle.meeting_arcs.proofs.Agreements.{walks_contract}
use Rattle.meeting_arcs.proofs.laws.walks_contract.Goals as goal

pub returns : goal.returns
returns c = λ net valid summaries right meeting is. walks_contract net valid summaries meeting right is
