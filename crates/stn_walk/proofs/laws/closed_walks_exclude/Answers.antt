use Rattle.stn_walk.proofs.Cycles.{no_schedule_closed}
use Rattle.stn_walk.proofs.laws.closed_walks_exclude.Goals as goal

pub returns : goal.returns
returns c = λ list points ns n s. no_schedule_closed list points ns n s
