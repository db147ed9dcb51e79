use Rattle.shared_graph.proofs.networks.Verdicts.{weights_bound}
use Rattle.shared_graph.proofs.laws.whole_weights_are_bounds.Goals as goal

pub returns : goal.returns
returns c = λ net valid summaries right es s is all whole i j one two apart. weights_bound net valid summaries right es s is all whole i j one two apart
