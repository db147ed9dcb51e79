use Rattle.shared_graph.proofs.interfaces.SharedPoints.{interface_is, interface_owner}
use Rattle.shared_graph.proofs.laws.interfaces_list.Goals as goal

pub returns : goal.returns
returns c = λ net valid. (interface_is net valid, interface_owner net valid)
