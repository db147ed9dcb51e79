use Rattle.meeting_arcs.proofs.OwnConflicts.{sound_no_negative}
use Rattle.meeting_arcs.proofs.laws.conflicts_are_all.Goals as goal

pub returns : goal.returns
returns c = λ net agent sound. sound_no_negative net agent sound
