use Rattle.stn_walk.proofs.Eliminations.{stays}
use Rattle.stn_walk.proofs.laws.stays_nonnegative.Goals as goal

pub returns : goal.returns
returns c = λ arcs es k none_below sums. stays arcs es k none_below sums
