use Rattle.shared_graph.proofs.networks.Verdicts.{stop_shows}
use Rattle.shared_graph.proofs.laws.stops_show.Goals as goal

pub returns : goal.returns
returns c = λ net valid summaries right es s is t stopped. (stop_shows net valid summaries right es s is t stopped).1
