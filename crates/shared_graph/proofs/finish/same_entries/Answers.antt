use Rattle.shared_graph.proofs.graphs.SameEntries.{entries_decide}
use Rattle.shared_graph.proofs.interfaces.SameLists.{same_lists}
use Rattle.shared_graph.proofs.finish.same_entries.Goals as goal

pub returns : goal.returns
returns c = same_lists c.eq.result c.args.one.now c.args.other.now c.eq.ensures entries_decide
