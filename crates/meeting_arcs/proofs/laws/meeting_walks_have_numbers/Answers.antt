use Rattle.meeting_arcs.proofs.Agreements.{walk_numbers}
use Rattle.meeting_arcs.proofs.laws.meeting_walks_have_numbers.Goals as goal

pub returns : goal.returns
returns c = λ net valid summaries entries meeting only. walk_numbers net valid summaries meeting entries only
