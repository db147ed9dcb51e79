use Rattle.shared_graph.proofs.networks.Verdicts.{whole_shows}
use Rattle.shared_graph.proofs.laws.whole_orders_show.Goals as goal

pub returns : goal.returns
returns c = λ net valid summaries right es s is all whole. whole_shows net valid summaries right es s is all whole
