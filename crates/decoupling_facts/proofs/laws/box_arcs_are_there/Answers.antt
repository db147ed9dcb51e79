use Rattle.decoupling_facts.proofs.JointTimes.{boxes_there, shared_there}
use Rattle.decoupling_facts.proofs.laws.box_arcs_are_there.Goals as goal

pub returns : goal.returns
returns c = λ net agent e. (boxes_there net agent e, shared_there net agent e)
