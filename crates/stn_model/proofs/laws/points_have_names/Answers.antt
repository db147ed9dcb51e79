use Rattle.stn_model.proofs.FindLemmas.{point_by_name, found_point}
use Rattle.stn_model.proofs.laws.points_have_names.Goals as goal

pub returns : goal.returns
returns c = λ net valid. (point_by_name net valid, found_point net)
