use Rattle.conflict_cycle.proofs.PrivatePairs.{private_pairs_join}
use Rattle.conflict_cycle.proofs.laws.private_pairs_join.Goals as goal

pub returns : goal.returns
returns c = private_pairs_join
