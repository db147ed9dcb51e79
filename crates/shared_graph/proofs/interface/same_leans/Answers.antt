use Rattle.shared_graph.proofs.interfaces.SameLists.{same_lists, leans_decide}
use Rattle.shared_graph.proofs.interface.same_leans.Goals as goal

pub returns : goal.returns
returns c = same_lists c.eq.result c.args.one.now c.args.other.now c.eq.ensures leans_decide
