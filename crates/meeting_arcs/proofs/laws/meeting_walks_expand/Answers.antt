use Rattle.stn_model.specs.Net.{arcs_of}
use Rattle.meeting_arcs.proofs.Expansions.{walk_expands}
use Rattle.meeting_arcs.proofs.Agreements.{meeting_expands}
use Rattle.meeting_arcs.proofs.laws.meeting_walks_expand.Goals as goal

pub returns : goal.returns
returns c = λ net valid summaries entries meeting only. walk_expands meeting (arcs_of net) (meeting_expands net valid summaries meeting entries only)
