use Rattle.shared_graph.proofs.networks.Agreements.{weights_same}
use Rattle.shared_graph.proofs.laws.whole_weights_agree.Goals as goal

pub returns : goal.returns
returns c = λ face summaries known fits es fs s t is at all_s whole_s all_t whole_t i j.
    weights_same face known summaries fits es fs s t is at all_s whole_s all_t whole_t i j
