use Rattle.shared_graph.proofs.interfaces.SameLists.{same_lists, arcs_decide}
use Rattle.shared_graph.proofs.interface.same_arcs.Goals as goal

pub returns : goal.returns
returns c = same_lists c.eq.result c.args.one.now c.args.other.now c.eq.ensures arcs_decide
