use Rattle.meeting_arcs.proofs.MeetingLists.{meeting_is}
use Rattle.meeting_arcs.proofs.laws.meeting_arcs_meet.Goals as goal

pub returns : goal.returns
returns c = λ net summaries. meeting_is net summaries
