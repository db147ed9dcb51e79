use Rattle.shared_graph.proofs.times.Entries.{start_times}
use Rattle.shared_graph.proofs.times_laws.start_holds_times.Goals as goal

pub returns : goal.returns
returns c = λ face s none. start_times face s none
