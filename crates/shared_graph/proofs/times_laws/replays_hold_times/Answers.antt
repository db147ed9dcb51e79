use Rattle.shared_graph.proofs.times.Entries.{replayed_times}
use Rattle.shared_graph.proofs.times_laws.replays_hold_times.Goals as goal

pub returns : goal.returns
returns c = λ face summaries known fits es s is. replayed_times face known summaries fits es s is
