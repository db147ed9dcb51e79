use Rattle.private_elim.proofs.sweep.SameParts.{sweeps_same}
use Rattle.private_elim.proofs.laws.sweeps_agree.Goals as goal

pub returns : goal.returns
returns c = sweeps_same
