use Rattle.shared_graph.proofs.networks.Agreements.{no_stop_beside}
use Rattle.shared_graph.proofs.laws.stops_exclude_whole_orders.Goals as goal

pub returns : goal.returns
returns c = λ face summaries known fits es fs s t is at all whole. no_stop_beside face known summaries fits es fs s t is at all whole
