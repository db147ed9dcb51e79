use Rattle.shared_graph.proofs.times.Progressing.{entries_go_on}
use Rattle.shared_graph.proofs.times_laws.times_go_on.Goals as goal

pub returns : goal.returns
returns c = λ face summaries es s t is. entries_go_on face summaries es s t is
