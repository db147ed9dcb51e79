use Rattle.shared_graph.proofs.times.Entries.{entry_times}
use Rattle.shared_graph.proofs.times_laws.entries_keep_times.Goals as goal

pub returns : goal.returns
returns c = λ face summaries known s e together holds legal. entry_times face known summaries s together holds e legal
