use Rattle.shared_graph.proofs.networks.Isolation.{same_replays}
use Rattle.shared_graph.proofs.laws.replays_agree.Goals as goal

pub returns : goal.returns
returns c = λ net other same. same_replays net other same
