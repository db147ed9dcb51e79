use Rattle.shared_graph.specs.States.{start}
use Rattle.shared_graph.proofs.states.Faults.{whole_or_fault, first_found}
use Rattle.shared_graph.proofs.laws.faults_are_first.Goals as goal

pub returns : goal.returns
returns c = λ face summaries es. (whole_or_fault face summaries es start 0, first_found face summaries es)
