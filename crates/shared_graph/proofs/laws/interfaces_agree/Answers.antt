use Rattle.shared_graph.proofs.networks.Isolation.{same_interface}
use Rattle.shared_graph.proofs.laws.interfaces_agree.Goals as goal

pub returns : goal.returns
returns c = λ net other same. same_interface net other same
