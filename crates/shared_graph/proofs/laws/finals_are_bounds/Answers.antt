use Rattle.shared_graph.proofs.networks.Verdicts.{finals_bound}
use Rattle.shared_graph.proofs.laws.finals_are_bounds.Goals as goal

pub returns : goal.returns
returns c = λ net valid summaries right es s is i j joined one two. finals_bound net valid summaries right es s is i j joined one two
