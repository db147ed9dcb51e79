use Rattle.stn_walk.proofs.Rotation.{normal_form}
use Rattle.stn_walk.proofs.laws.normal_forms_are_there.Goals as goal

pub returns : goal.returns
returns c = λ list ns n. normal_form list ns n
