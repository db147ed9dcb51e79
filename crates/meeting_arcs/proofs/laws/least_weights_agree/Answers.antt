use Rattle.meeting_arcs.proofs.Agreements.{weights_agree}
use Rattle.meeting_arcs.proofs.laws.least_weights_agree.Goals as goal

pub returns : goal.returns
returns c = λ net valid summaries right meeting is i j o start end apart. weights_agree net valid summaries meeting right is i j start end apart o
