use Rattle.stn_model.proofs.BoundLemmas.{bound_is_set, kinds_stay}
use Rattle.stn_model.proofs.laws.bounds_are_set.Goals as goal

pub returns : goal.returns
returns c = λ net n b valid given. (bound_is_set net n b given, kinds_stay net n b valid)
