use Rattle.stn_model.proofs.WalkLemmas.{least_bound_unique}
use Rattle.stn_model.proofs.laws.least_bounds_are_unique.Goals as goal

pub returns : goal.returns
returns c = least_bound_unique
