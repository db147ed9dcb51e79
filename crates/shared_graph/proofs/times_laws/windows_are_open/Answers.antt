use Rattle.shared_graph.proofs.times.Assigning.{open_window}
use Rattle.shared_graph.proofs.times_laws.windows_are_open.Goals as goal

pub returns : goal.returns
returns c = λ face known s together holds k next. open_window face known s together k next holds
