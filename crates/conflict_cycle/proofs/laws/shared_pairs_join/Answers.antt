use Rattle.conflict_cycle.proofs.SharedPairs.{shared_pairs_join}
use Rattle.conflict_cycle.proofs.laws.shared_pairs_join.Goals as goal

pub returns : goal.returns
returns c = shared_pairs_join
