use Rattle.stn_walk.proofs.Cycles.{found_cycle}
use Rattle.stn_walk.proofs.laws.cycles_are_found.Goals as goal

pub returns : goal.returns
returns c = λ list ns n. found_cycle list ns n
