use Rattle.stn_model.proofs.ArcKinds.{arc_has_kind}
use Rattle.stn_model.proofs.laws.arcs_have_kinds.Goals as goal

pub returns : goal.returns
returns c = arc_has_kind
